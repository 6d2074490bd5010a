-- The start of a copy that a power cut leaves undone or done, and nothing between.
use Rattle.std.specs.Prelude.{◌≡◌, ◌<◌, ◌-◌, ◌^◌, ℕ, true, List, take}
use Rattle.std.specs.List.{All}
use Rattle.std.specs.Map.{keys_of}
use Rattle.oci_store.specs.Closed.{IsClosed}
use Rattle.oci_store.specs.Content.{Entry}
use Rattle.oci_store.specs.Graph.{Node}
use Rattle.oci_store.specs.Keyed.{has_key, HasAll}
use Rattle.oci_store.specs.State.{State}
use Rattle.oci_store.specs.Tags.{Tags}
use Rattle.oci_copy.specs.Grown.{SameByDigest}
use Rattle.oci_layout_store.specs.Blobs.{blob_path, IsSound}
use Rattle.oci_dir.specs.Crash.{IsSettled}
use Rattle.oci_dir.specs.Device.{Device}
use Rattle.oci_layout_store.specs.Lasts.{Lasts}

-- A copy starts from a destination that is on the disk: nobody else writes into either folder, each file
-- that the destination has matches its key, all that its keys list is held, and a digest that is in both
-- has the same bytes in both. The destination lasts with its contents and tags, and a put that fails is
-- counted.
pub record StartsSettled (source old : State) : Type 0 where
  pub is_honest : source.is_honest
  pub same : SameByDigest source.entries old.entries
  pub is_sound : old.is_sound
  pub closed : IsClosed old.nodes
  pub lasts : old.lasts old.entries old.tags
  pub counts : old.failures < 2 ^ 64 - 1

-- A copied layout can be cleaned up whole: each of its files matches its key, it is closed, and a layout
-- with these contents and tags lasts, whose keys it holds. Each key before the place is one of those.
pub record CanCleanUp (dir : Device) (from : ℕ) (graph : List Node) (entries : List Entry) (tags : Tags) : Type 0 where
  pub is_sound : IsSound dir.is_honest dir.file graph
  pub closed : IsClosed graph
  pub lasts : Lasts dir entries tags
  pub first : All (λ (n : Node). has_key entries n.0 ≡ true) (take from graph)
  pub held : HasAll graph (keys_of entries)

-- the file of each key is on the disk
abbrev pub AreSettled : Device → List Node → Type 0
AreSettled dir graph = All (λ (n : Node). IsSettled dir (blob_path n.0.digest)) graph
