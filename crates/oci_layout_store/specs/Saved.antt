-- The entries that a save writes: those of the index that was opened stay as they are, unless what
-- they say has changed.
use Rattle.std.specs.Prelude.{◌≡◌, ◌↔◌, ℕ, suc, ◌==◌, Bool, true, false, ◌&&◌, ◌||◌, not, List, [], ◌∷◌, ◌++◌, map, filter, slice_get, is_none, Option, Some, None, option_and_then, Contains, String, string_bytes, string_cmp, if◌then◌else◌, ◌≢◌, ◌⊎◌}
use Rattle.std.specs.declared.alloc.Global.{Global}
use Rattle.std.specs.BTreeMap.{BTreeMap, get}
use Rattle.std.specs.List.Sorted.{IsStrictlySortedBy}
use Rattle.std.specs.Map.{values_of}
use Rattle.std.specs.Str.{bytes_eq}
use Rattle.oci_manifest.specs.Descriptor.{Descriptor, key_cmp, is_among}
use Rattle.oci_manifest.specs.MediaTypes.{kind_of}
use Rattle.oci_manifest.specs.declared.kind.Kind.TheVariants.{Leaf}
use Rattle.oci_store.specs.Graph.{Node, IsEdge}
use Rattle.oci_store.specs.Keyed.{has_key}
use Rattle.oci_store.specs.Tags.{Tags, tag_at}
use Rattle.oci_layout_store.specs.Entries.{IndexEntry, IndexContent, entry_keys, is_held, is_this_key, new_entry, said}
use Rattle.oci_layout_store.specs.Layout.{OpenedIndex}

-- ---- names

-- whether an entry has no name; an empty text is none
abbrev pub no_name : Option (List ℕ) → Bool
no_name None = true
no_name (Some []) = true
no_name (Some (c ∷ cs)) = false

-- whether a name is this one
abbrev pub is_name : List ℕ → Option (List ℕ) → Bool
is_name name None = false
is_name name (Some n) = bytes_eq name n

-- a place in the rest of a list, or else the first one
abbrev pub later_place : Option ℕ → Bool → Option ℕ
later_place (Some i) here = Some (suc i)
later_place None true = Some 0
later_place None false = None

-- whether a place is that one
abbrev pub is_place : ℕ → Option ℕ → Bool
is_place place None = false
is_place place (Some last) = place == last

-- the place of the last entry with a name
abbrev pub last_place : List ℕ → List IndexEntry → Option ℕ
last_place name [] = None
last_place name (e ∷ es) = later_place (last_place name es) (is_name name e.name)

-- the last entry with a name
abbrev pub last_entry : List ℕ → List IndexEntry → Option IndexEntry
last_entry name entries = option_and_then (slice_get entries) (last_place name entries)

-- ---- the entries that come first

-- whether the key of an entry was absent when the layout was opened, or the entry has none; here and
-- below, `absent` says of a key whether it was
abbrev pub was_absent : (Descriptor → Bool) → Option Descriptor → Bool
was_absent absent None = true
was_absent absent (Some k) = absent k

-- a name belongs to its last entry, whose key is given: its tag has that key, or there is no such
-- tag, and the key was absent when the layout was opened
abbrev pub belongs : (Descriptor → Bool) → Option Descriptor → Option Descriptor → Bool
belongs absent None key = was_absent absent key
belongs absent (Some tagged) key = is_this_key tagged key

-- an entry whose name belongs to its last entry comes first if it is another one, or if there is no
-- tag
abbrev pub comes_before : (Descriptor → Bool) → Option Descriptor → Bool → Option IndexEntry → Bool
comes_before absent tagged is_last None = false
comes_before absent tagged is_last (Some last) = belongs absent tagged last.key && (not is_last || is_none tagged)

-- an absent key that is not held
abbrev pub is_missing : (Descriptor → Bool) → List Node → Option Descriptor → Bool
is_missing absent graph key = was_absent absent key && not (is_held graph key)

-- a key that was absent or is held; the others were dropped, and their entries go
abbrev pub is_left : (Descriptor → Bool) → List Node → Option Descriptor → Bool
is_left absent graph key = was_absent absent key || is_held graph key

-- whether the entry at a place comes first: it has no name and its key is missing; or its key was
-- not dropped, and it has a name that belongs to a later entry, or to this one without a tag
abbrev pub is_first : (Descriptor → Bool) → List Node → Tags → List IndexEntry → ℕ → Option Descriptor → Option (List ℕ) → Bool
is_first absent graph tags entries place key None = is_missing absent graph key
is_first absent graph tags entries place key (Some []) = is_missing absent graph key
is_first absent graph tags entries place key (Some (c ∷ cs)) = is_left absent graph key && comes_before absent (tag_at tags (c ∷ cs)) (is_place place (last_place (c ∷ cs) entries)) (last_entry (c ∷ cs) entries)

-- those of these entries that come first; the first of them is at the place
abbrev pub first_from : (Descriptor → Bool) → List Node → Tags → List IndexEntry → ℕ → List IndexEntry → List IndexEntry
first_from absent graph tags entries place [] = []
first_from absent graph tags entries place (e ∷ es) =
    if is_first absent graph tags entries place e.key e.name then e ∷ first_from absent graph tags entries (suc place) es
    else first_from absent graph tags entries (suc place) es

-- the entries that come first, in the order of the index
abbrev pub first_entries : (Descriptor → Bool) → List Node → Tags → List IndexEntry → List IndexEntry
first_entries absent graph tags entries = first_from absent graph tags entries 0 entries

-- the held keys of those of these entries that have a name
abbrev pub named_held : List Node → List IndexEntry → List Descriptor
named_held graph entries = entry_keys (filter (λ (e : IndexEntry). not (no_name e.name) && is_held graph e.key) entries)

-- the held keys of the entries with a name that come first: the name belongs to a later entry, or
-- is no tag
abbrev pub shadowed_keys : OpenedIndex → List Node → Tags → List Descriptor
shadowed_keys opened graph tags = named_held graph (first_entries (is_among opened.absent) graph tags (said opened.content).entries)

-- ---- the entries of tags

-- an entry, if its key is the one of the tag, and otherwise a new one
abbrev pub entry_or_new : Option IndexEntry → Descriptor → List ℕ → IndexEntry
entry_or_new None k name = new_entry k (Some name)
entry_or_new (Some e) k name = if is_this_key k e.key then e else new_entry k (Some name)

abbrev pub tag_entry : List IndexEntry → List ℕ × Descriptor → IndexEntry
tag_entry entries t = entry_or_new (last_entry t.0 entries) t.1 t.0

-- ---- the entries without a tag

-- a key is at the top: it is of a manifest kind, or no key of the graph lists it
abbrev pub IsTop : List Node → Descriptor → Type 0
IsTop graph k = (kind_of k.media_type ≢ Leaf) ⊎ ((parent : Descriptor) → IsEdge graph parent k → ⊥)

-- a held key that has no tag and is at the top
pub record IsLoose (graph : List Node) (tags : Tags) (k : Descriptor) : Type 0 where
  pub is_there : has_key graph k ≡ true
  pub untagged : Contains (values_of tags) k → ⊥
  pub is_top : IsTop graph k

-- the keys of the entries without a name
abbrev pub unnamed_keys : List IndexEntry → List Descriptor
unnamed_keys entries = entry_keys (filter (λ (e : IndexEntry). no_name e.name) entries)

-- the loose keys without an entry that has no name, in key order
pub record AreLoose (graph : List Node) (tags : Tags) (entries : List IndexEntry) (loose : List Descriptor) : Type 0 where
  pub each : (k : Descriptor) → Contains loose k ↔ (IsLoose graph tags k × (Contains (unnamed_keys entries) k → ⊥))
  pub order : IsStrictlySortedBy key_cmp loose

-- the entries without a name whose keys are held
abbrev pub unnamed_held : List Node → List IndexEntry → List IndexEntry
unnamed_held graph entries = filter (λ (e : IndexEntry). no_name e.name && is_held graph e.key) entries

-- new entries of keys, without a name
abbrev pub loose_entries : List Descriptor → List IndexEntry
loose_entries loose = map (λ k. new_entry k None) loose

-- ---- all entries

-- the entries that a save writes
abbrev pub saved_entries : List Descriptor → List IndexEntry → List Node → Tags → List Descriptor → List IndexEntry
saved_entries absent entries graph tags loose = first_entries (is_among absent) graph tags entries ++ (map (tag_entry entries) tags ++ (unnamed_held graph entries ++ loose_entries loose))

-- the index that a save writes has these, and the members of the one that was opened
abbrev pub saved_content : OpenedIndex → List Node → Tags → List Descriptor → IndexContent
saved_content opened graph tags loose = record { entries = saved_entries opened.absent (said opened.content).entries graph tags loose; members = (said opened.content).members }

-- ---- the code

-- a map has the place of the last entry of each name
abbrev pub HasLastPlaces : BTreeMap (String Global) ℕ → List IndexEntry → Type 0
HasLastPlaces places entries = (name : String Global) → get string_cmp places name ≡ last_place (string_bytes name) entries
