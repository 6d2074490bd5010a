-- The keys of the entries with a name that a copy brings are roots.
use Rattle.std.proofs.Common.{◌≡◌, ℕ, suc, Bool, true, false, cond, not, ◌&&◌, ◌||◌, inl, inr, List, [], ◌∷◌, ◌++◌, filter, map, slice_get, option_map, Option, Some, None, is_none, is_some, refl, sym, ap, subst, ◌∙◌}
use Rattle.std.specs.Prelude.{◌⊎◌, Contains}
use Rattle.std.specs.List.{All, flat_map}
use Rattle.std.specs.Map.{values_of}
use Rattle.std.proofs.lemmas.Bool.{cases_Bool}
use Rattle.std.proofs.lemmas.List.Elements.{All-append, All-contains, All-contains_itself, All-cons, All-filter, All-head, All-map, All-nil, All-tail, All-weaker, filter_passes}
use Rattle.std.proofs.lemmas.Option.{same_Some}
use Rattle.oci_manifest.specs.Descriptor.{Descriptor, is_among}
use Rattle.oci_store.specs.Graph.{Node}
use Rattle.oci_store.specs.Tags.{Tags}
use Rattle.oci_store.proofs.Membership.{Keys}
use Rattle.oci_layout_store.specs.Brought.{annotations_of, comes, gives_way, renamed, same_name, stating, with_annotations, with_name, Brings}
use Rattle.oci_layout_store.specs.Entries.{IndexEntry, entry_keys, is_held, is_this_key, said}
use Rattle.oci_layout_store.specs.Layout.{OpenedIndex}
use Rattle.oci_layout_store.specs.Saved.{first_entries, first_from, is_first, is_name, later_place, no_name, shadowed_keys, unnamed_keys}
use Rattle.oci_layout_store.proofs.EntryKeys.{all_keys, first_key, key_or_none, no_first_key, this_key_is}
use Rattle.oci_entries.specs.Brought.{entry_at, first_of, if_there, is_of, is_tagged, last_such, place_of_key, place_of_reference, reference_entry, root_entry, tag_entries, with_roots}
use Rattle.oci_selection.specs.Selected.{IsOfRoot}

and_first : (a b : Bool) → (a && b) ≡ true → a ≡ true
and_first true b h = refl
and_first false b h = h

and_second : (a b : Bool) → (a && b) ≡ true → b ≡ true
and_second true b h = h
and_second false b h = cc h

-- ---- the key of the entry that a copy picks

later_cases : (o : Option ℕ) (b : Bool) (i : ℕ) → later_place o b ≡ Some i → ((j : ℕ) × (o ≡ Some j) × (suc j ≡ i)) ⊎ ((b ≡ true) × (0 ≡ i))
later_cases (Some j) b i h = inl (j, refl, same_Some (suc j) i h)
later_cases None true i h = inr (refl, same_Some 0 i h)
later_cases None false i h = cc h

-- the last entry that passes a test passes it
last_passes : (test : IndexEntry → Bool) (es : List IndexEntry) (i : ℕ) (e : IndexEntry) → last_such test es ≡ Some i → slice_get es i ≡ Some e → test e ≡ true
last_passes test [] i e last at = cc last
last_passes test (d ∷ es) i e last at =
    elim (later_cases (last_such test es) (test d) i last) [
      | inl it ↦ last_passes test es it.0 e it.1 (subst (λ (n : ℕ). slice_get (d ∷ es) n ≡ Some e) (sym it.2) at)
      | inr it ↦ subst (λ (x : IndexEntry). test x ≡ true) (same_Some d e (subst (λ (n : ℕ). slice_get (d ∷ es) n ≡ Some e) (sym it.1) at)) it.0
    ]

-- the entry at a place, if there is one, has this key
abbrev HasKeyAt : List IndexEntry → Descriptor → Option ℕ → Type 0
HasKeyAt entries k place = (e : IndexEntry) → entry_at entries place ≡ Some e → e.key ≡ Some k

of_last : (entries : List IndexEntry) (k : Descriptor) (test : IndexEntry → Bool) → ((e : IndexEntry) → test e ≡ true → e.key ≡ Some k) → (place : Option ℕ) → last_such test entries ≡ place → HasKeyAt entries k place
of_last entries k test gives None is e at = cc at
of_last entries k test gives (Some i) is e at = gives e (last_passes test entries i e is at)

of_first : (entries : List IndexEntry) (k : Descriptor) (p q : Option ℕ) → HasKeyAt entries k p → HasKeyAt entries k q → HasKeyAt entries k (first_of p q)
of_first entries k None q hp hq = hq
of_first entries k (Some i) q hp hq = hp

of_key : (entries : List IndexEntry) (k : Descriptor) → HasKeyAt entries k (place_of_key entries k)
of_key entries k =
    of_first entries k (last_such (is_of true k) entries) (last_such (is_of false k) entries)
    (of_last entries k (is_of true k) (λ e h. this_key_is k e.key (and_second (not true || no_name e.name) (is_this_key k e.key) h)) (last_such (is_of true k) entries) refl)
    (of_last entries k (is_of false k) (λ e h. this_key_is k e.key (and_second (not false || no_name e.name) (is_this_key k e.key) h)) (last_such (is_of false k) entries) refl)

of_reference : (entries : List IndexEntry) (name : List ℕ) (k : Descriptor) → HasKeyAt entries k (place_of_reference entries name k)
of_reference entries name k =
    of_first entries k (last_such (is_tagged name k) entries) (place_of_key entries k)
    (of_last entries k (is_tagged name k) (λ e h. this_key_is k e.key (and_second (is_name name e.name) (is_this_key k e.key) h)) (last_such (is_tagged name k) entries) refl) (of_key entries k)

-- ---- the entries of a reference and of tags

renamed_key : (name : Option (List ℕ)) (e : IndexEntry) → (renamed name e).key ≡ e.key
renamed_key name e =
    elim (same_name name e.name) as (λ b. (cond b e (record { key = e.key; name = name; value = with_annotations e.value (with_name name (annotations_of e.value)) })).key ≡ e.key) [
      | true ↦ refl
      | false ↦ refl
    ]

module _ (roots : Keys) where
  there_named : (name : Option (List ℕ)) (k : Descriptor) → Contains roots k → (o : Option IndexEntry) → ((e : IndexEntry) → o ≡ Some e → e.key ≡ Some k) → All (IsOfRoot roots) (if_there (option_map (renamed name) o))
  there_named name k there None has = All-nil (IsOfRoot roots)
  there_named name k there (Some e) has =
      All-cons (IsOfRoot roots) (renamed name e) []
      (λ named other is. subst (Contains roots) (same_Some k other (sym (has e refl) ∙ sym (renamed_key name e) ∙ is)) there) (All-nil (IsOfRoot roots))

  reference_named : (entries : List IndexEntry) (from to : List ℕ) (k : Descriptor) → Contains roots k → All (IsOfRoot roots) (reference_entry entries from to k)
  reference_named entries from to k there = there_named (Some to) k there (entry_at entries (place_of_reference entries from k)) (of_reference entries from k)

  pub tags_named : (entries : List IndexEntry) (tags : Tags) → All (Contains roots) (values_of tags) → All (IsOfRoot roots) (tag_entries entries tags)
  tags_named entries [] all = All-nil (IsOfRoot roots)
  tags_named entries (t ∷ tags) all =
      All-append (IsOfRoot roots) (reference_entry entries t.0 t.0 t.1) (tag_entries entries tags) (reference_named entries t.0 t.0 t.1 (All-head (Contains roots) t.1 (values_of tags) all))
      (tags_named entries tags (All-tail (Contains roots) t.1 (values_of tags) all))

  pub both_named : (entries : List IndexEntry) (from to : List ℕ) (k : Descriptor) (others : Tags) → Contains roots k → All (Contains roots) (values_of others) → All (IsOfRoot roots) (reference_entry entries from to k ++ tag_entries entries others)
  both_named entries from to k others there all =
      All-append (IsOfRoot roots) (reference_entry entries from to k) (tag_entries entries others) (reference_named entries from to k there) (tags_named entries others all)

  pub listed_named : (entries : List IndexEntry) (e : IndexEntry) (to : List ℕ) (k : Descriptor) (others : Tags) → e.key ≡ Some k → Contains roots k → All (Contains roots) (values_of others) → All (IsOfRoot roots) (renamed (Some to) e ∷ tag_entries entries others)
  listed_named entries e to k others has there all =
      All-cons (IsOfRoot roots) (renamed (Some to) e) (tag_entries entries others)
      (λ named other is. subst (Contains roots) (same_Some k other (sym has ∙ sym (renamed_key (Some to) e) ∙ is)) there) (tags_named entries others all)

  -- ---- the entries of the other roots have no name

  no_name_of : (name : Option (List ℕ)) → is_none name ≡ true → no_name name ≡ true
  no_name_of None h = refl
  no_name_of (Some name) h = cc h

  renamed_none : (e : IndexEntry) → no_name (renamed None e).name ≡ true
  renamed_none e =
      elim (cases_Bool (is_none e.name)) [
        | inl none ↦ rw none (no_name_of e.name none)
        | inr some ↦ rw some refl
      ]

  unnamed_there : (o : Option IndexEntry) → All (IsOfRoot roots) (if_there (option_map (renamed None) o))
  unnamed_there None = All-nil (IsOfRoot roots)
  unnamed_there (Some e) = All-cons (IsOfRoot roots) (renamed None e) [] (λ named k is. cc (sym (ap not (renamed_none e)) ∙ named)) (All-nil (IsOfRoot roots))

  unless_named : (b : Bool) (es : List IndexEntry) → All (IsOfRoot roots) es → All (IsOfRoot roots) (cond b [] es)
  unless_named true es all = All-nil (IsOfRoot roots)
  unless_named false es all = all

  roots_named : (entries named : List IndexEntry) (keys : Keys) → All (IsOfRoot roots) (flat_map (root_entry entries named) keys)
  roots_named entries named [] = All-nil (IsOfRoot roots)
  roots_named entries named (k ∷ keys) =
      All-append (IsOfRoot roots) (root_entry entries named k) (flat_map (root_entry entries named) keys)
      (unless_named (is_some (last_such (is_of false k) named)) (if_there (option_map (renamed None) (entry_at entries (place_of_key entries k)))) (unnamed_there (entry_at entries (place_of_key entries k)))) (roots_named entries named keys)

  pub with_roots_named : (entries named : List IndexEntry) (keys : Keys) → All (IsOfRoot roots) named → All (IsOfRoot roots) (with_roots entries named keys)
  with_roots_named entries named keys all = All-append (IsOfRoot roots) named (flat_map (root_entry entries named) keys) all (roots_named entries named keys)

  -- ---- the entries of all names

  -- entries whose keys are roots
  pub keys_named : (es : List IndexEntry) → All (Contains roots) (entry_keys es) → All (IsOfRoot roots) es
  keys_named [] all = All-nil (IsOfRoot roots)
  keys_named (e ∷ es) all =
      elim (key_or_none e.key) [
        | inl it ↦
            let keys : All (Contains roots) (it.0 ∷ entry_keys es) = subst (All (Contains roots)) (first_key e es it.0 it.1) all in
            All-cons (IsOfRoot roots) e es (λ named k is. subst (Contains roots) (same_Some it.0 k (sym it.1 ∙ is)) (All-head (Contains roots) it.0 (entry_keys es) keys)) (keys_named es (All-tail (Contains roots) it.0 (entry_keys es) keys))
        | inr none ↦ All-cons (IsOfRoot roots) e es (λ named k is. cc (sym none ∙ is)) (keys_named es (subst (All (Contains roots)) (no_first_key e es none) all))
      ]

  -- ---- what is brought into an index whose names are of roots

  pub brought_named : (entries : List IndexEntry) (tags : Tags) (old new : OpenedIndex) → Brings entries tags old new → All (IsOfRoot roots) (said old.content).entries → All (IsOfRoot roots) entries → All (IsOfRoot roots) (said new.content).entries
  brought_named entries tags old new brings before all =
      let was = (said old.content).entries in
      let stays : IndexEntry → Bool = λ e. not (gives_way false entries e.name) in
      let came : IndexEntry → Bool = comes (is_among (values_of tags)) (is_among (unnamed_keys was)) in
      subst (All (IsOfRoot roots)) (sym brings.entries) (All-append (IsOfRoot roots) (filter stays was) (map stating (filter came entries)) (All-filter stays (IsOfRoot roots) was before)
      (All-map (IsOfRoot roots) stating (filter came entries) (All-filter came (IsOfRoot roots) entries all)))

  first_named : (absent : Descriptor → Bool) (graph : List Node) (tags : Tags) (all : List IndexEntry) (place : ℕ) (es : List IndexEntry) → All (IsOfRoot roots) es → All (IsOfRoot roots) (first_from absent graph tags all place es)
  first_named absent graph tags all place [] h = All-nil (IsOfRoot roots)
  first_named absent graph tags all place (e ∷ es) h =
      let rest = first_named absent graph tags all (suc place) es (All-tail (IsOfRoot roots) e es h) in
      let later = first_from absent graph tags all (suc place) es in
      elim (is_first absent graph tags all place e.key e.name) as (λ b. All (IsOfRoot roots) (cond b (e ∷ later) later)) [
        | true ↦ All-cons (IsOfRoot roots) e later (All-head (IsOfRoot roots) e es h) rest
        | false ↦ rest
      ]

  -- the keys of the entries that a tag hides are roots
  pub shadowed_named : (opened : OpenedIndex) (graph : List Node) (tags : Tags) → All (IsOfRoot roots) (said opened.content).entries → All (Contains roots) (shadowed_keys opened graph tags)
  shadowed_named opened graph tags all =
      let first = first_entries (is_among opened.absent) graph tags (said opened.content).entries in
      let test : IndexEntry → Bool = λ e. not (no_name e.name) && is_held graph e.key in
      let named = All-filter test (IsOfRoot roots) first (first_named (is_among opened.absent) graph tags (said opened.content).entries 0 (said opened.content).entries all) in
      let passes = filter_passes test first in
      let Q : IndexEntry → Type 0 = λ e. (k : Descriptor) → e.key ≡ Some k → Contains roots k in
      all_keys (Contains roots) (filter test first)
      (All-weaker (Contains (filter test first)) Q
      (λ e there. All-contains (IsOfRoot roots) (filter test first) e named there (and_first (not (no_name e.name)) (is_held graph e.key) (All-contains (λ (x : IndexEntry). test x ≡ true) (filter test first) e passes there)))
      (filter test first) (All-contains_itself (filter test first)))
