-- What a power cut leaves of a layout that is changed and saved.
use Rattle.std.specs.Prelude.{◌≡◌, ◌⊎◌, ℕ, List}
use Rattle.std.specs.BTreeSet.{BTreeSet}
use Rattle.oci_manifest.specs.Descriptor.{Descriptor}
use Rattle.oci_store.specs.Closed.{IsClosed}
use Rattle.oci_store.specs.Content.{Entry}
use Rattle.oci_store.specs.Graph.{Node}
use Rattle.oci_store.specs.Tags.{Tags}
use Rattle.oci_layout_store.specs.Blobs.{IsSound}
use Rattle.oci_dir.specs.Crash.{IsLeft}
use Rattle.oci_dir.specs.Device.{Device, File, Same}
use Rattle.oci_layout_store.specs.Index.{HasIndex}
use Rattle.oci_layout_store.specs.Lasts.{AreKnown, HasLayout, Lasts}
use Rattle.oci_layout_store.specs.Layout.{LayoutState}
use Rattle.oci_prune.specs.Pruned.{kept_of}

-- A layout that is saved now may be saved whole: each of its files matches its key, it is closed, and a
-- layout with these contents and tags lasts. Each key before the place is held there, or its file is on
-- the disk.
pub record CanSettle (dir : Device) (from : ℕ) (graph : List Node) (entries : List Entry) (tags : Tags) : Type 0 where
  pub is_sound : IsSound dir.is_honest dir.file graph
  pub closed : IsClosed graph
  pub lasts : Lasts dir entries tags
  pub known : AreKnown dir from graph entries

-- a power cut leaves one of two layouts whole, each with its contents and tags
abbrev pub LeavesOneOf : Device → List Entry → Tags → List Entry → Tags → Type 0
LeavesOneOf dir entries tags others names = (left : File) → IsLeft dir left → HasLayout left entries tags ⊎ HasLayout left others names

-- the kept keys are held and saved, no draft changed, and no put failed
pub record SavesOnly {D : Type 0} (device : D → Device) (old new : LayoutState D) (kept : BTreeSet Descriptor) : Type 0 where
  pub graph : new.graph ≡ kept_of kept old.graph
  pub index : (device old.dir).is_honest → HasIndex (device new.dir).file new.graph new.tags new.opened
  pub failures : (device new.dir).failures ≡ (device old.dir).failures
  pub drafts : (device old.dir).is_honest → Same (device old.dir).draft (device new.dir).draft
