-- The contents and tags that a crash leaves of a layout.
use Rattle.std.specs.Prelude.{◌≡◌, ◌⊎◌, ℕ, List, true, take, IsSome}
use Rattle.std.specs.List.{All}
use Rattle.std.specs.Map.{keys_of}
use Rattle.oci_manifest.specs.Descriptor.{IsKey}
use Rattle.oci_store.specs.Closed.{IsClosed}
use Rattle.oci_store.specs.Content.{Entry}
use Rattle.oci_store.specs.Graph.{Node}
use Rattle.oci_store.specs.Keyed.{has_key}
use Rattle.oci_store.specs.Tags.{Tags}
use Rattle.oci_layout_store.specs.Blobs.{blob_path, stored}
use Rattle.oci_dir.specs.Crash.{IsLeft, IsSettled}
use Rattle.oci_layout_store.specs.Keeps.{Keeps}
use Rattle.oci_dir.specs.Device.{Device, File}
use Rattle.oci_layout_store.specs.Files.{HasFiles, HasKept}
use Rattle.oci_layout_store.specs.Layout.{OpenedIndex}
use Rattle.oci_layout_store.specs.Opened.{IsOpened, IsOpenedAsIs}

-- the files are those of a layout with this graph and these tags: it is opened from them, as it is
-- or not, or they are those that a save writes
abbrev pub IsLayoutOf : File → List Node → Tags → OpenedIndex → Type 0
IsLayoutOf file graph tags opened = IsOpened file graph tags opened ⊎ IsOpenedAsIs file graph tags opened ⊎ HasFiles file (stored file graph) graph tags opened

-- these files are those of a closed layout with this graph, these contents and these tags
pub record IsClosedLayout (file : File) (graph : List Node) (entries : List Entry) (tags : Tags) : Type 0 where
  pub opened : OpenedIndex
  pub are_keys : All IsKey (keys_of graph)
  pub closed : IsClosed graph
  pub is : IsLayoutOf file graph tags opened
  pub are_there : All (λ (n : Node). IsSome (file (blob_path n.0.digest))) graph
  pub contents : stored file graph ≡ entries

-- a closed layout with these contents and tags is in these files: `oci-layout`, the index and the
-- file of each of its keys are
pub record HasLayout (left : File) (entries : List Entry) (tags : Tags) : Type 0 where
  pub file : File
  pub graph : List Node
  pub layout : IsClosedLayout file graph entries tags
  pub kept : HasKept file left graph

-- a closed layout with these contents and tags lasts: a crash leaves all of its files
pub record Lasts (dir : Device) (entries : List Entry) (tags : Tags) : Type 0 where
  pub is_honest : dir.is_honest
  pub file : File
  pub graph : List Node
  pub layout : IsClosedLayout file graph entries tags
  pub keeps : Keeps dir file graph

-- if a layout lasts, whatever a crash leaves, it is there
abbrev pub LastingIsLeft : Device → Type 0
LastingIsLeft dir = (entries : List Entry) (tags : Tags) → Lasts dir entries tags → (left : File) → IsLeft dir left → HasLayout left entries tags

-- each key before the place has an entry, or a crash leaves its file as it is
abbrev pub AreKnown : Device → ℕ → List Node → List Entry → Type 0
AreKnown dir place graph entries = All (λ (n : Node). (has_key entries n.0 ≡ true) ⊎ IsSettled dir (blob_path n.0.digest)) (take place graph)
