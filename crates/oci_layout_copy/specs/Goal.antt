-- What a mirror is to leave in its destination: the selected tags, and those that it leaves alone.
use Rattle.std.specs.Prelude.{◌≡◌, ◌≢◌, ◌↔◌, ◌⊎◌, ℕ, Bool, true, false, not, ◌&&◌, ◌||◌, List, [], ◌++◌, filter, Option, None, Some, is_some, Contains}
use Rattle.std.specs.List.{All}
use Rattle.oci_command_line.specs.declared.changing.Selection.{Selection}
use Rattle.oci_command_line.specs.declared.changing.Selection.TheVariants as selection
use Rattle.oci_manifest.specs.Descriptor.{Descriptor}
use Rattle.oci_store.specs.Keyed.{has_key}
use Rattle.oci_store.specs.Tags.{Tags, by_bytes, tag_at}
use Rattle.oci_layout_store.specs.Meaning.{meaning}
use Rattle.oci_layout_store.specs.Brought.{Forgets}
use Rattle.oci_dir.specs.Device.{Device}
use Rattle.oci_layout_store.specs.Entries.{IndexEntry, entry_of, said}
use Rattle.oci_layout_store.specs.Layout.{LayoutState}
use Rattle.oci_layout_store.specs.Saved.{no_name}
use Rattle.oci_layout_store.specs.declared.index.IndexEntry.{IndexEntry as CodeEntry}
use Rattle.oci_prune.specs.Attached.{AreIndependent}
use Rattle.oci_prune.specs.declared.belonging.Belonging.{Belonging}
use Rattle.oci_entries.specs.Brought.{named_entries}
use Rattle.oci_entries.specs.Pattern.{matches_name, texts_of, unmatched_tags}
use Rattle.oci_selection.specs.Selected.{named_keys, other_tags, set_tags, IsOfRoot, IsSourceBelonging}

-- the patterns of a copy
abbrev pub patterns_of : Selection → List (List ℕ)
patterns_of (selection.Reference from to platform) = []
patterns_of (selection.AllTags patterns) = texts_of patterns.items

-- ---- the tags that stay

-- the tags of a destination that a mirror may leave alone: those whose names match none of the patterns
-- and are not the name of a selected tag
abbrev pub spared_tags : List (List ℕ) → Tags → Tags → Tags
spared_tags patterns tags selected = other_tags (unmatched_tags patterns tags) selected

-- whether a name is that of one of these tags
abbrev pub is_name_of : Tags → Option (List ℕ) → Bool
is_name_of tags None = false
is_name_of tags (Some name) = is_some (tag_at tags name)

-- the entries with the names of these tags
abbrev pub entries_of_names : Tags → List IndexEntry → List IndexEntry
entries_of_names tags entries = filter (λ (e : IndexEntry). is_name_of tags e.name) entries

-- Of the tags that it may leave alone, an exact mirror keeps those that follow no other blob of the
-- destination, and those that name the digest of what belongs to these. What is attached to that stays.
pub record AreKeptExactly {D : Type 0} (device : D → Device) (layout : LayoutState D) (spared tags : Tags) (attached : List Descriptor) : Type 0 where
  pub own : Tags
  pub independent : AreIndependent layout.graph spared own
  pub keys : List Descriptor
  pub of_names : (k : Descriptor) → Contains keys k ↔ Contains (named_keys own (entries_of_names (set_tags [] own) (said layout.opened.content).entries)) k
  pub belonging : Belonging
  pub belongs : IsSourceBelonging (meaning (device layout.dir) layout.graph spared) keys belonging
  pub kept : tags ≡ own ++ by_bytes belonging.tags.items
  pub with_them : attached ≡ belonging.attached.items

-- The tags that a mirror keeps of those that it may leave alone, and the keys that it keeps beside
-- theirs. One that is not exact keeps all of these tags, and no more keys. An exact one keeps what is said
-- above, or nothing if there are no such tags.
abbrev pub AreKeptTags : {D : Type 0} → (D → Device) → LayoutState D → Bool → Tags → Tags → List Descriptor → Type 0
AreKeptTags device layout false spared tags attached = (tags ≡ spared) × (attached ≡ [])
AreKeptTags device layout true spared tags attached = ((spared ≡ []) × (tags ≡ []) × (attached ≡ [])) ⊎ ((spared ≢ []) × AreKeptExactly device layout spared tags attached)

-- ---- the entries that go

-- whether a mirror forgets an entry: it has a name that matches one of the patterns, or the name of a
-- tag that goes or of a selected one
abbrev pub is_forgotten : List (List ℕ) → Tags → Tags → IndexEntry → Bool
is_forgotten patterns gone selected e = (not (no_name e.name) && matches_name patterns e.name) || (is_name_of gone e.name || is_name_of selected e.name)

abbrev pub forgotten_entries : List (List ℕ) → Tags → Tags → List IndexEntry → List IndexEntry
forgotten_entries patterns gone selected entries = filter (λ (e : IndexEntry). is_forgotten patterns gone selected e) entries

-- a mirror that keeps these tags of a layout forgets the entries of the tags that go, of the selected
-- tags, and of all names that match
abbrev pub ForgetsOthers : {D : Type 0} → List (List ℕ) → Tags → Tags → LayoutState D → LayoutState D → Type 0
ForgetsOthers patterns kept selected old new =
    Forgets (forgotten_entries patterns (set_tags [] (other_tags old.tags kept)) (set_tags [] selected) (said old.opened.content).entries) old.opened new.opened

-- an entry is a descriptor, if it is not forgotten
abbrev pub IsReadableIfStays : List (List ℕ) → Tags → Tags → CodeEntry → Type 0
IsReadableIfStays patterns gone selected e = is_forgotten patterns gone selected (entry_of e) ≡ false → is_some e.key ≡ true

-- ---- the goal

-- the roots of a goal, and the tags that the destination is to have
abbrev pub Goal : Type 0
Goal = List Descriptor × Tags

-- The goal of a mirror has the selected roots and tags, and those of a destination that it leaves alone:
-- the kept tags, their keys, those of the remembered entries with a name, and what is kept for them.
pub record IsGoal {D : Type 0} (layout : LayoutState D) (selected : Goal) (kept : Tags) (attached : List Descriptor) (goal : Goal) : Type 0 where
  pub roots : (k : Descriptor) → Contains goal.0 k ↔ (Contains selected.0 k ⊎ (Contains (named_keys kept (named_entries (said layout.opened.content).entries)) k ⊎ Contains attached k))
  pub tags : goal.1 ≡ kept ++ selected.1

-- A destination was prepared for a mirror with these patterns, and this is the goal: it keeps some of the
-- tags that it may leave alone, forgets the entries of the names that match and of the tags that go or
-- are selected, and the goal is what is kept and what is selected.
pub record IsPrepared {D : Type 0} (device : D → Device) (patterns : List (List ℕ)) (is_exact : Bool) (selected : Goal) (old new : LayoutState D) (goal : Goal) : Type 0 where
  pub kept : Tags
  pub attached : List Descriptor
  pub tags : AreKeptTags device old is_exact (spared_tags patterns old.tags selected.1) kept attached
  pub entries : ForgetsOthers patterns kept selected.1 old new
  pub aim : IsGoal new selected kept attached goal

-- the goal is what is selected, and the destination remembers no entry with a name
pub record IsOnlySelected {D : Type 0} (layout : LayoutState D) (selected goal : Goal) : Type 0 where
  pub roots : (k : Descriptor) → Contains goal.0 k ↔ Contains selected.0 k
  pub tags : goal.1 ≡ selected.1
  pub entries : named_entries (said layout.opened.content).entries ≡ []

-- A goal fits a destination and a selection: each of its roots is selected or held, each selected root
-- is one of its roots, and so is the key of each remembered entry with a name.
pub record Fits {D : Type 0} (layout : LayoutState D) (chosen goal : List Descriptor) : Type 0 where
  pub held : All (λ (k : Descriptor). Contains chosen k ⊎ (has_key layout.graph k ≡ true)) goal
  pub selected : All (Contains goal) chosen
  pub named : All (IsOfRoot goal) (said layout.opened.content).entries
