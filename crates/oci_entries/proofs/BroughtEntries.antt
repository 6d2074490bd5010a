-- Lemmas about the entries of a source's index that a copy brings.
use Rattle.std.proofs.Common.{◌≡◌, ℕ, ◌+◌, ◌<◌, Bool, true, false, cond, not, ◌&&◌, ◌||◌, List, [], ◌∷◌, ◌++◌, map, length, take, get_or, slice_get, option_map, Option, Some, None, refl, sym, ap, ◌∙◌}
use Rattle.std.specs.BTreeMap.{BTreeMap, get, is_at}
use Rattle.std.specs.List.{All, flat_map}
use Rattle.std.specs.Option.{is_some}
use Rattle.std.specs.Map.{lookup}
use Rattle.std.specs.Ordering.{is_eq}
use Rattle.std.proofs.lemmas.List.Elements.{All-append, All-contains, All-cons, All-nil}
use Rattle.oci_manifest.specs.Descriptor.{Descriptor, key_cmp}
use Rattle.oci_store.specs.Tags.{Tags}
use Rattle.oci_store.proofs.KeyOrder.{is_eq-key_cmp}
use Rattle.oci_copy.proofs.Places.{Contains-from_slice_get}
use Rattle.oci_layout_store.specs.Brought.{annotations_of, renamed, same_name, with_annotations, with_name, IsShallowEntry}
use Rattle.oci_layout_store.specs.Entries.{IndexEntry, entry_of, is_this_key}
use Rattle.oci_layout_store.specs.Saved.{later_place, no_name}
use Rattle.oci_layout_store.specs.declared.index.IndexEntry.{IndexEntry as CodeEntry}
use Rattle.oci_layout_store.proofs.Brought.{shallow_with}
use Rattle.oci_layout_store.proofs.LastNames.{entries-more, later_place-cond, later_place-none, length-entries}
use Rattle.oci_entries.specs.Brought.{entry_at, if_there, is_of, last_such, place_of_key, place_of_reference, reference_entry, root_entry, tag_entries, with_roots, HasLastPlaces}

-- ---- the last entry of each key

-- one entry more
pub last_such-more : (test : IndexEntry → Bool) (es : List IndexEntry) (e : IndexEntry) → last_such test (es ++ e ∷ []) ≡ cond (test e) (Some (length es)) (last_such test es)
last_such-more test [] e = later_place-none (test e)
last_such-more test (d ∷ es) e = ap (λ (o : Option ℕ). later_place o (test d)) (last_such-more test es e) ∙ later_place-cond (test e) (test d) (length es) (last_such test es)

-- the next entry of the code
pub last_such-next : (test : IndexEntry → Bool) (es : List CodeEntry) (i : ℕ) (e : CodeEntry) → i < length es → e ≡ get_or es i e
    → last_such test (map entry_of (take (i + 1) es)) ≡ cond (test (entry_of e)) (Some i) (last_such test (map entry_of (take i es)))
last_such-next test es i e lt is =
    ap (last_such test) (entries-more es i e lt is) ∙ last_such-more test (map entry_of (take i es)) (entry_of e)
    ∙ ap (λ (n : ℕ). cond (test (entry_of e)) (Some n) (last_such test (map entry_of (take i es)))) (length-entries es i lt)

pub HasLastPlaces-nil : (unnamed : Bool) (places : BTreeMap Descriptor ℕ) → places.entries ≡ [] → HasLastPlaces unnamed places []
HasLastPlaces-nil unnamed places none k = ap (lookup (is_at (key_cmp k))) none

pub HasLastPlaces-more : (unnamed : Bool) (old new : BTreeMap Descriptor ℕ) (es : List CodeEntry) (i : ℕ) (e : CodeEntry) → i < length es → e ≡ get_or es i e → HasLastPlaces unnamed old (map entry_of (take i es))
    → ((k : Descriptor) → get key_cmp new k ≡ cond (is_of unnamed k (entry_of e)) (Some i) (get key_cmp old k)) → HasLastPlaces unnamed new (map entry_of (take (i + 1) es))
HasLastPlaces-more unnamed old new es i e lt is before set k =
    set k ∙ ap (cond (is_of unnamed k (entry_of e)) (Some i)) (before k) ∙ sym (last_such-next (is_of unnamed k) es i e lt is)

-- a map in which the place of an entry that counts was set
pub set_key : (unnamed : Bool) (e : IndexEntry) (place : ℕ) (old new : BTreeMap Descriptor ℕ) (key : Descriptor) → (not unnamed || no_name e.name) ≡ true → e.key ≡ Some key
    → ((k : Descriptor) → get key_cmp new k ≡ cond (is_eq (key_cmp key k)) (Some place) (get key_cmp old k)) → (k : Descriptor) → get key_cmp new k ≡ cond (is_of unnamed k e) (Some place) (get key_cmp old k)
set_key unnamed e place old new key counts is set k =
    set k ∙ ap (λ (b : Bool). cond b (Some place) (get key_cmp old k)) (is_eq-key_cmp key k ∙ sym (ap (is_this_key k) is) ∙ sym (ap (λ (b : Bool). b && is_this_key k e.key) counts))

-- ---- entries that are not nested too deeply

renamed_shallow : (name : Option (List ℕ)) (e : IndexEntry) → IsShallowEntry e → IsShallowEntry (renamed name e)
renamed_shallow name e h =
    elim (same_name name e.name) as (λ b. IsShallowEntry (cond b e (record { key = e.key; name = name; value = with_annotations e.value (with_name name (annotations_of e.value)) }))) [
      | true ↦ h
      | false ↦ shallow_with name e.value h
    ]

there_shallow : (name : Option (List ℕ)) (entries : List IndexEntry) (i : ℕ) (o : Option IndexEntry) → slice_get entries i ≡ o → All IsShallowEntry entries → All IsShallowEntry (if_there (option_map (renamed name) o))
there_shallow name entries i None is all = All-nil IsShallowEntry
there_shallow name entries i (Some e) is all =
    All-cons IsShallowEntry (renamed name e) [] (renamed_shallow name e (All-contains IsShallowEntry entries e all (Contains-from_slice_get entries i e is))) (All-nil IsShallowEntry)

pub at_shallow : (name : Option (List ℕ)) (entries : List IndexEntry) (place : Option ℕ) → All IsShallowEntry entries → All IsShallowEntry (if_there (option_map (renamed name) (entry_at entries place)))
at_shallow name entries None all = All-nil IsShallowEntry
at_shallow name entries (Some i) all = there_shallow name entries i (slice_get entries i) refl all

unless_shallow : (b : Bool) (es : List IndexEntry) → All IsShallowEntry es → All IsShallowEntry (cond b [] es)
unless_shallow true es all = All-nil IsShallowEntry
unless_shallow false es all = all

roots_shallow : (entries named : List IndexEntry) (roots : List Descriptor) → All IsShallowEntry entries → All IsShallowEntry (flat_map (root_entry entries named) roots)
roots_shallow entries named [] all = All-nil IsShallowEntry
roots_shallow entries named (k ∷ roots) all =
    All-append IsShallowEntry (root_entry entries named k) (flat_map (root_entry entries named) roots) (unless_shallow (is_some (last_such (is_of false k) named)) (if_there (option_map (renamed None) (entry_at entries (place_of_key entries k)))) (at_shallow None entries (place_of_key entries k) all)) (roots_shallow entries named roots all)

pub with_roots_shallow : (entries named : List IndexEntry) (roots : List Descriptor) → All IsShallowEntry entries → All IsShallowEntry named → All IsShallowEntry (with_roots entries named roots)
with_roots_shallow entries named roots all of_named = All-append IsShallowEntry named (flat_map (root_entry entries named) roots) of_named (roots_shallow entries named roots all)

pub tags_shallow : (entries : List IndexEntry) (tags : Tags) → All IsShallowEntry entries → All IsShallowEntry (tag_entries entries tags)
tags_shallow entries [] all = All-nil IsShallowEntry
tags_shallow entries (t ∷ tags) all =
    All-append IsShallowEntry (reference_entry entries t.0 t.0 t.1) (tag_entries entries tags) (at_shallow (Some t.0) entries (place_of_reference entries t.0 t.1) all) (tags_shallow entries tags all)

pub named_shallow : (entries : List IndexEntry) (from to : List ℕ) (k : Descriptor) (others : Tags) → All IsShallowEntry entries → All IsShallowEntry (reference_entry entries from to k ++ tag_entries entries others)
named_shallow entries from to k others all =
    All-append IsShallowEntry (reference_entry entries from to k) (tag_entries entries others) (at_shallow (Some to) entries (place_of_reference entries from k) all) (tags_shallow entries others all)

-- the entry of a manifest that an index lists, under a name, and those of the other tags
pub listed_shallow : (entries : List IndexEntry) (e : IndexEntry) (to : List ℕ) (others : Tags) → All IsShallowEntry entries → IsShallowEntry e → All IsShallowEntry (renamed (Some to) e ∷ tag_entries entries others)
listed_shallow entries e to others all here = All-cons IsShallowEntry (renamed (Some to) e) (tag_entries entries others) (renamed_shallow (Some to) e here) (tags_shallow entries others all)
