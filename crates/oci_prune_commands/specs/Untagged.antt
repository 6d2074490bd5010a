-- What `untag` does to the layout in a directory, and what it answers.
use Rattle.std.specs.Prelude.{◌≡◌, ◌⊎◌, ◌-◌, ◌++◌, ◌∷◌, ◌&&◌, not, ℕ, List, [], codes, flat_map, length, slice_get, Option, Some, None, if◌then◌else◌}
use Rattle.std.specs.BTreeSet.{BTreeSet, contains}
use Rattle.oci_manifest.specs.Descriptor.{Descriptor, key_cmp, key_text}
use Rattle.oci_layout_store.specs.Blobs.{stored}
use Rattle.oci_layout_store.specs.Brought.{Forgets}
use Rattle.oci_dir.specs.Device.{Device, Touches}
use Rattle.oci_layout_store.specs.Entries.{IndexEntry, entry_keys, said}
use Rattle.oci_layout_store.specs.Index.{HasIndex, index_file}
use Rattle.oci_layout_store.specs.Lasts.{Lasts}
use Rattle.oci_layout_store.specs.Layout.{LayoutState, SameMemory}
use Rattle.oci_layout_store.specs.Saved.{is_name}
use Rattle.oci_layout_store.specs.declared.fault.LayoutFault.{LayoutFault}
use Rattle.oci_layout_store.specs.declared.fault.LayoutFault.TheVariants as layout
use Rattle.oci_program.specs.Opened.{IsOpenedSettled}
use Rattle.oci_prune.specs.Pruned.{kept_of}
use Rattle.oci_prune.specs.Settled.{CanSettle}
use Rattle.oci_prune.specs.Untagged.{IsKnown, KeepsOthers, tags_of_kept}
use Rattle.oci_store.specs.Content.{Entry}
use Rattle.oci_store.specs.Graph.{Node}
use Rattle.oci_store.specs.Keyed.{has_key}
use Rattle.oci_store.specs.Tags.{Tags, tag_at, without_tag}
use Rattle.oci_prune_commands.specs.Named.{entries_named, keys_named}

-- ---- the layout that is left

-- The index of a layout is saved with what it holds, its tags and its entries as they are now. No other
-- file changed. If the layout could be saved whole before, it lasts as it is now.
pub record IsSavedAnew {D : Type 0} (device : D → Device) (old new : LayoutState D) : Type 0 where
  pub index : (device old.dir).is_honest → HasIndex (device new.dir).file new.graph new.tags new.opened
  pub other : (device old.dir).is_honest → Touches (device old.dir).file (device new.dir).file index_file
  pub lasts : (entries : List Entry) (tags : Tags) → CanSettle (device old.dir) (length old.graph) old.graph entries tags
      → Lasts (device new.dir) (stored (device new.dir).file new.graph) new.tags

-- the layout without one tag
abbrev pub untagged : {D : Type 0} → List ℕ → LayoutState D → LayoutState D
untagged tag layout = record { dir = layout.dir; graph = layout.graph; tags = without_tag layout.tags tag; opened = layout.opened }

-- the keys of the entries with a name: with a tag that of a layout as it was opened, and those that it hides
abbrev pub keys_going : {D : Type 0} → List ℕ → LayoutState D → List Descriptor
keys_going name layout = entry_keys (entries_named name (said layout.opened.content).entries)

-- the key, if it was held and is not kept
abbrev pub dropped_key : BTreeSet Descriptor → List Node → Option Descriptor → List Descriptor
dropped_key kept graph None = []
dropped_key kept graph (Some k) = if has_key graph k && not (contains key_cmp kept k) then k ∷ [] else []

-- that of an entry that has not the name
abbrev pub belonged_of : List ℕ → BTreeSet Descriptor → List Node → IndexEntry → List Descriptor
belonged_of name kept graph e = if is_name name e.name then [] else dropped_key kept graph e.key

-- the keys of the entries without the name that were held and are not kept, in the order of the index
abbrev pub belonged_keys : List ℕ → BTreeSet Descriptor → List Node → List IndexEntry → List Descriptor
belonged_keys name kept graph entries = flat_map (belonged_of name kept graph) entries

-- nothing goes along with a tag that a layout has lost, since it is not known what each held key lists
pub record GoesAlone {D : Type 0} (old new : LayoutState D) (belonged : List Descriptor) : Type 0 where
  pub unknown : IsKnown old.graph old.opened → ⊥
  pub memory : SameMemory old new
  pub none : belonged ≡ []

-- a layout has only the kept keys, and their tags
pub record HasOnlyKept {D : Type 0} (kept : BTreeSet Descriptor) (old new : LayoutState D) : Type 0 where
  pub graph : new.graph ≡ kept_of kept old.graph
  pub tags : new.tags ≡ tags_of_kept kept old.tags
  pub opened : new.opened ≡ old.opened

-- such a layout; these are the keys of the entries that went so, and have not the name
pub record DropsOthers {D : Type 0} (name : List ℕ) (kept : BTreeSet Descriptor) (old new : LayoutState D) (belonged : List Descriptor) : Type 0 where
  pub only : HasOnlyKept kept old new
  pub gone : belonged ≡ belonged_keys name kept old.graph (said old.opened.content).entries

-- with a tag that a layout has lost, which had the keys `going`, goes what belonged to these alone
pub record TakesAlong {D : Type 0} (device : D → Device) (tag : List ℕ) (going : List Descriptor) (old new : LayoutState D) (belonged : List Descriptor) : Type 0 where
  pub known : IsKnown old.graph old.opened
  pub kept : BTreeSet Descriptor
  pub others : KeepsOthers (device old.dir) old going kept
  pub drops : DropsOthers tag kept old new belonged

-- what goes along with a tag that a layout has lost
abbrev pub GoesAlong : {D : Type 0} → (D → Device) → List ℕ → List Descriptor → LayoutState D → LayoutState D → List Descriptor → Type 0
GoesAlong device tag going old new belonged = GoesAlone old new belonged ⊎ TakesAlong device tag going old new belonged

-- ---- what memory has of a layout that is not saved

-- a layout has only the tags of the kept keys, and all keys or only these
pub record HasTagsOfKept {D : Type 0} (kept : BTreeSet Descriptor) (old new : LayoutState D) : Type 0 where
  pub either : (new.graph ≡ old.graph) ⊎ (new.graph ≡ kept_of kept old.graph)
  pub tags : new.tags ≡ tags_of_kept kept old.tags
  pub opened : new.opened ≡ old.opened

-- What is not kept was dropped from a layout, and it is not saved. Only if memory ran out, all may be there
-- yet, or only tags be gone.
abbrev pub IsDroppedUnsaved : {D : Type 0} → BTreeSet Descriptor → LayoutState D → LayoutState D → LayoutFault → Type 0
IsDroppedUnsaved kept old new layout.Memory = SameMemory old new ⊎ HasTagsOfKept kept old new
IsDroppedUnsaved kept old new e = HasOnlyKept kept old new

-- the tags of what belonged to the keys `going` alone are gone, and perhaps its keys
pub record TakesTags {D : Type 0} (device : D → Device) (going : List Descriptor) (old new : LayoutState D) : Type 0 where
  pub known : IsKnown old.graph old.opened
  pub kept : BTreeSet Descriptor
  pub others : KeepsOthers (device old.dir) old going kept
  pub tags : HasTagsOfKept kept old new

-- A layout that has lost a tag, which had the keys `going`, is not saved. Memory has of it what a saved one
-- would have. Only if memory ran out, what goes along may be there yet, or only its tags be gone.
abbrev pub IsLeftUnsaved : {D : Type 0} → (D → Device) → List ℕ → List Descriptor → LayoutState D → LayoutState D → LayoutFault → Type 0
IsLeftUnsaved device tag going old new layout.Memory = SameMemory old new ⊎ TakesTags device going old new
IsLeftUnsaved device tag going old new e = (belonged : List Descriptor) × GoesAlong device tag going old new belonged

-- ---- a name goes

-- a tag, which named this key, is gone, alone or with what belonged to it
pub record LosesTag {D : Type 0} (device : D → Device) (tag : List ℕ) (old new : LayoutState D) (key : Option Descriptor) (belonged : List Descriptor) : Type 0 where
  pub named : tag_at old.tags tag ≡ key
  pub along : GoesAlong device tag (keys_going tag old) (untagged tag old) new belonged
  pub saved : IsSavedAnew device old new

-- no tag had the name; its entries, of which the last one has this key, are forgotten, and all keys and
-- tags stay
pub record LosesEntries {D : Type 0} (device : D → Device) (name : List ℕ) (old new : LayoutState D) (key : Option Descriptor) (belonged : List Descriptor) : Type 0 where
  pub no_tag : tag_at old.tags name ≡ None
  pub last : let keys = keys_named name (said old.opened.content).entries in Some key ≡ slice_get keys (length keys - 1)
  pub graph : new.graph ≡ old.graph
  pub tags : new.tags ≡ old.tags
  pub none : belonged ≡ []
  pub opened : Forgets (entries_named name (said old.opened.content).entries) old.opened new.opened
  pub saved : IsSavedAnew device old new

-- a name is gone from a layout: a tag, or a name that is no tag
abbrev pub LosesName : {D : Type 0} → (D → Device) → List ℕ → LayoutState D → LayoutState D → Option Descriptor → List Descriptor → Type 0
LosesName device name old new key belonged = LosesTag device name old new key belonged ⊎ LosesEntries device name old new key belonged

-- ---- the answer

-- the line of an entry that went, with its key if it has one
abbrev pub untagged_line : Option Descriptor → List ℕ
untagged_line None = codes "untagged -\n"
untagged_line (Some k) = codes "untagged " ++ key_text k ++ codes "\n"

abbrev pub untagged_lines : List (Option Descriptor) → List ℕ
untagged_lines keys = flat_map untagged_line keys

-- the lines of entries that went along
abbrev pub belonged_lines : List Descriptor → List ℕ
belonged_lines keys = flat_map (λ k. untagged_line (Some k)) keys

-- ---- the command

-- a name is gone from a layout: the key that it named, the keys of all the entries that had it, and those
-- of the entries that went along
pub record IsUntagged {D : Type 0} (device : D → Device) (name : List ℕ) (old new : LayoutState D) (key : Option Descriptor) (keys : List (Option Descriptor)) (belonged : List Descriptor) : Type 0 where
  pub loses : LosesName device name old new key belonged
  pub of_all : keys ≡ keys_named name (said old.opened.content).entries

-- the layout in a directory was opened, and left without a name, which had this key and these, and without
-- what belonged to it
pub record IsUntagRun {D : Type 0} (device : D → Device) (dir : D) (name : List ℕ) (key : Option Descriptor) (keys : List (Option Descriptor)) (belonged : List Descriptor) : Type 0 where
  pub opened : LayoutState D
  pub is_opened : IsOpenedSettled device dir opened
  pub left : LayoutState D
  pub untagged : IsUntagged device name opened left key keys belonged
