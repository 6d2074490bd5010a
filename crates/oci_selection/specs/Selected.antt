-- The roots of a copy, the tags that it sets, and the entries that it brings.
use Rattle.std.specs.Prelude.{◌≡◌, ◌≢◌, ◌↔◌, ℕ, Bool, true, false, not, ◌&&◌, ◌||◌, List, [], ◌∷◌, ◌++◌, map, filter, Option, None, Some, is_some, Contains}
use Rattle.std.specs.List.{All, IsDistinct}
use Rattle.std.specs.Map.{keys_of, values_of}
use Rattle.std.specs.Option.{option_copied}
use Rattle.oci_command_line.specs.declared.changing.CopyWords.{CopyWords}
use Rattle.oci_command_line.specs.declared.changing.Selection.{Selection}
use Rattle.oci_command_line.specs.declared.changing.Selection.TheVariants as selection
use Rattle.oci_copy.specs.Tagged.{name_of}
use Rattle.oci_manifest.specs.Descriptor.{Descriptor, same_key}
use Rattle.oci_store.specs.Graph.{Node}
use Rattle.oci_store.specs.Keyed.{has_key}
use Rattle.oci_store.specs.State.{State}
use Rattle.oci_store.specs.Tags.{Tags, by_bytes, set_tag, tag_at, without_tag}
use Rattle.oci_store.specs.Visiting.{with_keys}
use Rattle.oci_layout_store.specs.Meaning.{meaning}
use Rattle.oci_layout_store.specs.Brought.{renamed, IsShallowEntry}
use Rattle.oci_dir.specs.Device.{Device}
use Rattle.oci_layout_store.specs.Entries.{IndexEntry, entry_keys, entry_of, is_held, said, text_of, unreadable_places}
use Rattle.oci_layout_store.specs.Layout.{LayoutState, manifests_of}
use Rattle.oci_layout_store.specs.Saved.{no_name}
use Rattle.oci_layout_store.specs.declared.index.IndexEntry.{IndexEntry as CodeEntry}
use Rattle.oci_entries.specs.Brought.{reference_entry, tag_entries, with_roots}
use Rattle.oci_entries.specs.Pattern.{matches_name, matching_entries, matching_tags, texts_of, unmatched_tags}
use Rattle.oci_selection.specs.declared.referrers.Referrers.{Referrers}
use Rattle.oci_selection.specs.declared.referrers.Referrers.TheVariants.{LeftOut, Climbed, Attached, OfTypes}
use Rattle.oci_plan.specs.Up.{HasPath, IsUp, IsWithinDepth}
use Rattle.oci_reference.specs.Platform.{entry_for, first_for, listed_by, picked_of}
use Rattle.oci_reference.specs.Reference.{Names}
use Rattle.oci_reference.specs.declared.platform.Picked.{Picked}
use Rattle.oci_prune.specs.Attached.{AttachedBy}
use Rattle.oci_prune.specs.Belonging.{IsBelonging, IsComplete}
use Rattle.oci_prune.specs.Free.{IsFree}
use Rattle.oci_prune.specs.Plan.{roots_of as prune_roots}
use Rattle.oci_prune.specs.Typed.{RefersByTypes}
use Rattle.oci_prune.specs.declared.belonging.Belonging.{Belonging}

-- no tag is empty, and each tags a root
pub record AreOfRoots (roots : List Descriptor) (tags : Tags) : Type 0 where
  pub named : All (λ (name : List ℕ). name ≢ []) (keys_of tags)
  pub rooted : All (λ (k : Descriptor). Contains roots k) (values_of tags)

-- the key of an entry is a root, if the entry has a name
abbrev pub IsOfRoot : List Descriptor → IndexEntry → Type 0
IsOfRoot roots e = not (no_name e.name) ≡ true → (k : Descriptor) → e.key ≡ Some k → Contains roots k

-- the tags and the entries with a name are of roots, and no entry is nested too deeply to be written
-- into an index
pub record IsSelected (roots : List Descriptor) (tags : Tags) (entries : List IndexEntry) : Type 0 where
  pub of_roots : AreOfRoots roots tags
  pub named : All (IsOfRoot roots) entries
  pub shallow : All IsShallowEntry entries

-- ---- the roots

-- the keys that a copy of one key climbs to: only the key, or with referrers the keys from which a path
-- within the depth leads to it
abbrev pub AreClimbed : List Node → Option ℕ → Descriptor → List Descriptor → Type 0
AreClimbed graph None k climbed = climbed ≡ k ∷ []
AreClimbed graph (Some depth) k climbed = IsUp graph k depth climbed

-- a copy of one key climbs to a key: to the key itself, or with referrers to a key from which a path
-- within the depth leads to it
abbrev pub IsClimbed : List Node → Option ℕ → Descriptor → Descriptor → Type 0
IsClimbed graph None k from = from ≡ k
IsClimbed graph (Some depth) k from = (edges : ℕ) × IsWithinDepth depth edges × HasPath graph edges from k

-- a copy of these keys climbs to a key: a copy of one of them does
abbrev pub IsClimbedOfKeys : List Node → Option ℕ → List Descriptor → Descriptor → Type 0
IsClimbedOfKeys graph referrers keys from = (k : Descriptor) × Contains keys k × IsClimbed graph referrers k from

-- the keys that a copy of these keys climbs to, each once
pub record AreClimbedOfKeys (graph : List Node) (referrers : Option ℕ) (keys climbed : List Descriptor) : Type 0 where
  pub each : (from : Descriptor) → Contains climbed from ↔ IsClimbedOfKeys graph referrers keys from
  pub distinct : IsDistinct same_key climbed

-- these keys, each once, at its first place
abbrev pub each_once : List Descriptor → List Descriptor
each_once keys = with_keys [] keys

-- what belongs to keys of a source: all that is held and listed or tagged, and in an honest source
-- exactly what is attached
pub record IsSourceBelonging (store : State) (keys : List Descriptor) (b : Belonging) : Type 0 where
  pub complete : IsComplete store.nodes keys store.tags b
  pub exact : store.is_honest → IsBelonging store.nodes keys (AttachedBy store.entries store.tags) b

-- what belongs to keys of a source, if of what is attached to what they reach only referrers of these
-- types are wanted: all that is held and listed, and in an honest source exactly what is attached so
pub record IsTypedBelonging (store : State) (types : List (List ℕ)) (keys : List Descriptor) (b : Belonging) : Type 0 where
  pub complete : IsComplete store.nodes keys [] b
  pub exact : store.is_honest → IsBelonging store.nodes keys (RefersByTypes store keys types) b

-- the keys, and then what is attached to what belongs to them by these types
abbrev pub AddsTyped : State → List (List ℕ) → List Descriptor → List Descriptor → Type 0
AddsTyped store types keys roots = (b : Belonging) × IsTypedBelonging store types keys b × (roots ≡ each_once (keys ++ b.attached.items))

-- The climbed keys, and then what is attached to the keys that belong to them; and the tags that come
-- with tags that match patterns: those of the source that name a manifest which belongs to the climbed
-- keys, and that match none of the patterns.
abbrev pub AddsAttached : State → List (List ℕ) → List Descriptor → List Descriptor → Tags → Type 0
AddsAttached store patterns climbed roots others =
    (b : Belonging) × IsSourceBelonging store climbed b × (roots ≡ each_once (climbed ++ b.attached.items)) × (others ≡ unmatched_tags patterns (by_bytes b.tags.items))

-- The roots of a copy with referrers, and the tags that come with the tag of a name: those of the source
-- that name a manifest which belongs to the climbed keys, but for one of that name.
abbrev pub AreWithAttached : State → List Descriptor → List ℕ → List Descriptor → Tags → Type 0
AreWithAttached store climbed name roots others =
    (b : Belonging) × IsSourceBelonging store climbed b × (roots ≡ each_once (climbed ++ b.attached.items)) × (others ≡ without_tag (by_bytes b.tags.items) name)

-- the roots of a copy of a reference, and the tags that come with its own
abbrev pub AreReferenceRoots : State → Referrers → Descriptor → List ℕ → List Descriptor → Tags → Type 0
AreReferenceRoots store LeftOut k name roots others = (roots ≡ k ∷ []) × (others ≡ [])
AreReferenceRoots store (Climbed depth) k name roots others = (climbed : List Descriptor) × IsUp store.nodes k depth climbed × AreWithAttached store climbed name roots others
AreReferenceRoots store Attached k name roots others = AreWithAttached store (k ∷ []) name roots others
AreReferenceRoots store (OfTypes types) k name roots others = AddsTyped store (map (λ t. t.now) types.now) (k ∷ []) roots × (others ≡ [])

-- the roots of a copy of the tags that match patterns, and the tags that come with these: without
-- referrers the keys that it starts from, each once; with them the keys that it climbs to, and what is
-- attached to the keys that belong to these
abbrev pub AreAllRoots : State → List (List ℕ) → Referrers → List Descriptor → List Descriptor → Tags → Type 0
AreAllRoots store patterns LeftOut keys roots others = AreClimbedOfKeys store.nodes None keys roots × (others ≡ [])
AreAllRoots store patterns (Climbed depth) keys roots others = (climbed : List Descriptor) × AreClimbedOfKeys store.nodes (Some depth) keys climbed × AddsAttached store patterns climbed roots others
AreAllRoots store patterns Attached keys roots others = (climbed : List Descriptor) × AreClimbedOfKeys store.nodes None keys climbed × AddsAttached store patterns climbed roots others
AreAllRoots store patterns (OfTypes types) keys roots others = ((once : List Descriptor) × AreClimbedOfKeys store.nodes None keys once × AddsTyped store (map (λ t. t.now) types.now) once roots) × (others ≡ [])

-- the keys that a copy of tags starts from: those of the tags, and those of the entries of their names
abbrev pub named_keys : Tags → List IndexEntry → List Descriptor
named_keys tags named = values_of tags ++ entry_keys named

-- the images of a source that no tag names, if they are asked for, and otherwise none
abbrev pub AreUntagged : {D : Type 0} → (D → Device) → LayoutState D → Bool → List Descriptor → Type 0
AreUntagged device source false keys = keys ≡ []
AreUntagged device source true keys = (device source.dir).is_honest → (k : Descriptor) → Contains keys k ↔ IsFree (meaning (device source.dir) source.graph source.tags) (prune_roots source) k

-- ---- the tags

-- an entry has a key that is held, if it has a name that matches one of the patterns
abbrev pub IsNamedHeld : List Node → List (List ℕ) → CodeEntry → Type 0
IsNamedHeld graph patterns e = not (no_name (text_of e.name)) && matches_name patterns (text_of e.name) ≡ true → is_held graph e.key ≡ true

-- those of these entries that have a name which matches one of the patterns have keys that are held
abbrev pub AreNamedHeld : List Node → List (List ℕ) → List CodeEntry → Type 0
AreNamedHeld graph patterns entries = All (IsNamedHeld graph patterns) entries

-- the tags, with each of these set in turn
abbrev pub set_tags : Tags → Tags → Tags
set_tags tags [] = tags
set_tags tags (t ∷ more) = set_tags (set_tag tags t.0 t.1) more

-- the tags, without each of these
abbrev pub without_tags : Tags → Tags → Tags
without_tags tags [] = tags
without_tags tags (t ∷ more) = without_tags (without_tag tags t.0) more

-- the tags that do not have the name of a kept one
abbrev pub other_tags : Tags → Tags → Tags
other_tags tags kept = filter (λ t. not (is_some (tag_at (set_tags [] kept) t.0))) tags

-- ---- what the words of a copy select

-- everything in a layout can be read: no manifest is damaged, and each entry of its index is a
-- descriptor
pub record HasAllReadable {D : Type 0} (layout : LayoutState D) : Type 0 where
  pub manifests : manifests_of layout.opened.damaged ≡ []
  pub entries : unreadable_places (said layout.opened.content).entries ≡ []

-- each entry of a layout's index is there: it is a descriptor, and its key was held when the layout was
-- opened
pub record HasEachEntry {D : Type 0} (layout : LayoutState D) : Type 0 where
  pub known : layout.opened.absent ≡ []
  pub readable : unreadable_places (said layout.opened.content).entries ≡ []

-- the roots of a copy, the tags that it sets, and the entries that it brings
abbrev pub Selected : Type 0
Selected = List Descriptor × Tags × List CodeEntry

-- whether a copy is of a manifest for a platform
abbrev pub asks_platform : Selection → Bool
asks_platform (selection.Reference from to platform) = is_some platform
asks_platform (selection.AllTags patterns) = false

-- whether a copy climbs: one that prunes, or asks for a platform, does not
abbrev pub climbs : CopyWords → Bool
climbs words = not (words.prunes || asks_platform words.selection)

-- what a copy brings beside the blobs that it starts from: nothing without referrers; what is attached
-- by the types, if there are some; and else what is attached, and what leads to it if the copy climbs
abbrev pub AreReferrersOf : CopyWords → Referrers → Type 0
AreReferrersOf words LeftOut = words.referrers ≡ None
AreReferrersOf words (OfTypes types) = (is_some words.referrers ≡ true) × (types.now ≡ words.types.items) × (types.now ≢ [])
AreReferrersOf words Attached = (is_some words.referrers ≡ true) × (words.types.items ≡ []) × (climbs words ≡ false)
AreReferrersOf words (Climbed depth) = (words.referrers ≡ Some depth) × (words.types.items ≡ []) × (climbs words ≡ true)

-- a copy of a key under a name selects the roots of the key, its tag and those that come with it, and
-- these entries of the key beside those of the other tags and roots
abbrev pub SelectsKey : {D : Type 0} → (D → Device) → LayoutState D → Referrers → Descriptor → List ℕ → List IndexEntry → Selected → Type 0
SelectsKey device source referrers k name own s =
    (others : Tags) × AreReferenceRoots (meaning (device source.dir) source.graph source.tags) referrers k name s.0 others
    × (s.1 ≡ (name, k) ∷ others)
    × (map entry_of s.2 ≡ with_roots (said source.opened.content).entries (own ++ tag_entries (said source.opened.content).entries others) s.0)

-- a copy of a reference, which is tagged with its second name if that is not empty, selects the key
-- that it names
abbrev pub SelectsReference : {D : Type 0} → (D → Device) → LayoutState D → List ℕ → List ℕ → Referrers → Selected → Type 0
SelectsReference device source from to referrers s =
    (k : Descriptor) × Names (keys_of source.graph) source.tags from k
    × SelectsKey device source referrers k (name_of from to) (reference_entry (said source.opened.content).entries from (name_of from to) k) s

-- A copy for a platform selects a held manifest of the index that the reference names: if the directory
-- is honest, the first one that the index lists for the platform. The entry of its tag is its
-- descriptor in the index.
abbrev pub SelectsPlatform : {D : Type 0} → (D → Device) → LayoutState D → List ℕ → List ℕ → List ℕ → Referrers → Selected → Type 0
SelectsPlatform device source platform from to referrers s =
    (index : Descriptor) × (picked : Picked) × Names (keys_of source.graph) source.tags from index
    × ((device source.dir).is_honest → first_for platform (listed_by (device source.dir).file source.graph index) ≡ Some (picked_of picked))
    × (has_key source.graph picked.key ≡ true)
    × SelectsKey device source referrers picked.key (name_of from to) (renamed (Some (name_of from to)) (entry_for (picked_of picked)) ∷ []) s

-- A copy of the tags that match one of the patterns selects what each entry of their names names, the
-- images without a tag if these are asked for, and the tags that come with these. With no patterns each
-- tag matches, and no other one comes. If images without a tag are asked for, each entry of the source is
-- there.
pub record SelectsAllTags {D : Type 0} (device : D → Device) (source : LayoutState D) (patterns : List (List ℕ)) (brings_untagged : Bool) (referrers : Referrers) (s : Selected) : Type 0 where
  pub others : Tags
  pub untagged : List Descriptor
  pub are_untagged : AreUntagged device source brings_untagged untagged
  pub named : AreNamedHeld source.graph patterns source.opened.content.entries
  pub whole : brings_untagged ≡ true → HasEachEntry source
  pub tagged : matching_tags patterns source.tags ≢ []
  pub tags : s.1 ≡ matching_tags patterns source.tags ++ others
  pub roots : AreAllRoots (meaning (device source.dir) source.graph source.tags) patterns referrers (named_keys (matching_tags patterns source.tags) (matching_entries patterns (said source.opened.content).entries) ++ untagged) s.0 others
  pub entries : map entry_of s.2 ≡ with_roots (said source.opened.content).entries (matching_entries patterns (said source.opened.content).entries ++ tag_entries (said source.opened.content).entries others) s.0

-- a copy of a reference selects the key that it names, or with a platform the manifest for that
abbrev pub SelectsNamed : {D : Type 0} → (D → Device) → LayoutState D → List ℕ → List ℕ → Option (List ℕ) → Referrers → Selected → Type 0
SelectsNamed device source from to None referrers s = SelectsReference device source from to referrers s
SelectsNamed device source from to (Some platform) referrers s = SelectsPlatform device source platform from to referrers s

-- a copy selects what its words name: a reference, the manifest for a platform, or the tags that match
-- one of their patterns
abbrev pub SelectsBy : {D : Type 0} → (D → Device) → LayoutState D → Bool → Referrers → Selection → Selected → Type 0
SelectsBy device source brings_untagged referrers (selection.Reference from to platform) s = SelectsNamed device source from.now to.now (option_copied platform) referrers s
SelectsBy device source brings_untagged referrers (selection.AllTags patterns) s = SelectsAllTags device source (texts_of patterns.items) brings_untagged referrers s

abbrev pub Selects : {D : Type 0} → (D → Device) → LayoutState D → CopyWords → Selected → Type 0
Selects device source words s = (referrers : Referrers) × AreReferrersOf words referrers × SelectsBy device source words.brings_untagged referrers words.selection s
