-- Layouts for the whole of which a command answers.
use Rattle.std.specs.Prelude.{◌≡◌, Bool, true, false, List, []}
use Rattle.std.specs.List.{All}
use Rattle.oci_command_line.specs.declared.request.Query.{Query}
use Rattle.oci_command_line.specs.declared.request.Query.TheVariants as query
use Rattle.oci_dir.specs.Device.{Device}
use Rattle.oci_layout_store.specs.Entries.{said, unreadable_places}
use Rattle.oci_layout_store.specs.Layout.{OpenedIndex, manifests_of}
use Rattle.oci_layout_store.specs.Opened.{IsOpenedAsIs, is_damaged}
use Rattle.oci_store.specs.Graph.{Node}
use Rattle.oci_store.specs.Tags.{Tags}
use Rattle.oci_manifest.specs.Descriptor.{Descriptor}

-- whether a command answers for a whole layout: `tags`, `predecessors`, and `tree` with referrers
abbrev pub is_of_all : Query → Bool
is_of_all (query.Tags lists_all) = true
is_of_all (query.Predecessors reference types) = true
is_of_all (query.Tree reference platform shows_referrers) = shows_referrers
is_of_all other = false

-- each entry that a layout remembers is a descriptor
abbrev pub AreReadable : OpenedIndex → Type 0
AreReadable index = unreadable_places (said index.content).entries ≡ []

-- a layout can be opened in a directory, each entry of its index is a descriptor, and none of its
-- manifests is damaged
pub record IsReadable (dir : Device) : Type 0 where
  pub graph : List Node
  pub tags : Tags
  pub index : OpenedIndex
  pub opened : IsOpenedAsIs dir.file graph tags index
  pub readable : AreReadable index
  pub undamaged : manifests_of index.damaged ≡ []

-- ---- a layout that was opened

-- the files of these keys in an honest directory are not damaged
abbrev pub AreUndamaged : Device → List Descriptor → Type 0
AreUndamaged dir keys = dir.is_honest → All (λ k. is_damaged true dir.file k ≡ false) keys

-- answers for a whole layout leave nothing out: each entry that it remembers is a descriptor, and the
-- file of no manifest that was passed over is damaged
pub record LeavesNothingOut (dir : Device) (index : OpenedIndex) : Type 0 where
  pub readable : AreReadable index
  pub undamaged : AreUndamaged dir (manifests_of index.damaged)
