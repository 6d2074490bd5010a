-- A save of what was opened as it is writes the same entries.
use Rattle.std.proofs.Common.{◌≡◌, ℕ, ◌+◌, ◌<◌, ◌≤◌, ◌==◌, suc, Bool, true, false, cond, not, ◌&&◌, ◌≢◌, inl, inr, List, [], ◌∷◌, ◌++◌, map, length, option_map, Option, Some, None, Less, filter, append_assoc, append-nil, length-append, eqb-true, refl, sym, ap, subst, ◌∙◌, arith}
use Rattle.std.specs.Prelude.{Contains}
use Rattle.std.specs.List.{All, AllByRecursion}
use Rattle.std.specs.List.Sorted.{IsStrictlySortedBy}
use Rattle.std.specs.Map.{keys_of}
use Rattle.std.specs.Cmp.Lexicographic.{slice_cmp}
use Rattle.std.specs.Ordering.{is_eq, nat_cmp}
use Rattle.std.specs.Str.{bytes_eq}
use Rattle.std.proofs.lemmas.Bool.{cases_Bool, and_parts, and_from, not_from_false, not-true, or_left, or_right}
use Rattle.std.proofs.lemmas.Bool.Decides.{Decides-eqb}
use Rattle.std.proofs.lemmas.List.Elements.{All-head, All-tail, All-nil, All-weaker, All-cons, All-contains, All-contains_itself, Contains-append_left, Contains-append_right, Contains-append_cases, filter-append}
use Rattle.std.proofs.lemmas.Map.Text.{is_eq-slice_cmp}
use Rattle.std.proofs.lemmas.Slice.Eq.{bytes_eq-Decides}
use Rattle.std.proofs.lemmas.Option.{none-some}
use Rattle.oci_manifest.specs.Descriptor.{Descriptor, is_among, same_key}
use Rattle.oci_manifest.proofs.Keys.{Decides-same_key}
use Rattle.oci_store.specs.Graph.{IsEdge, Node}
use Rattle.oci_store.specs.Keyed.{has_key}
use Rattle.oci_store.specs.Tags.{AreNames, Tags, tag_at}
use Rattle.oci_layout_store.specs.Entries.{IndexEntry, absent_in, entry_keys, is_held, is_this_key, new_entry}
use Rattle.oci_layout_store.specs.Saved.{AreLoose, IsLoose, IsTop, comes_before, entry_or_new, first_from, is_first, is_left, is_missing, is_name, is_place, last_entry, last_place, later_place, loose_entries, no_name, saved_entries, tag_entry, unnamed_held, unnamed_keys, was_absent}
use Rattle.oci_layout_store.proofs.EntryKeys.{entry_keys-append, first_key, key_or_none, no_first_key, same_held, this_key_from}
use Rattle.oci_layout_store.proofs.Law.{one_is}
use Rattle.oci_layout_store.proofs.Loose.{no_element}
use Rattle.oci_layout_store.proofs.OrderedTags.{IsOrdered, below_none, first_at, same_bytes}
use Rattle.oci_layout_store.proofs.SavedTags.{IsNameless, all_nameless, and_false, first_absent, here_is, last_cases, last_entry-last_of, last_of, later, loose_top, owns, owns_before, saved_last, tag_key, tag_name, tail_last, unheld_key}
use Rattle.oci_layout_store.proofs.Following.{tags_named}

each_of : {X : Type 0} (P : X → Type 0) (xs : List X) → ((x : X) → Contains xs x → P x) → All P xs
each_of P xs h = All-weaker (Contains xs) P h xs (All-contains_itself xs)

-- ---- the place of the last entry of a name

last_place_at : (name : List ℕ) (pre es : List IndexEntry) (j : ℕ) → last_place name es ≡ Some j → last_place name (pre ++ es) ≡ Some (length pre + j)
last_place_at name [] es j h =
    let same : j ≡ 0 + j = omega arith in
    h ∙ ap Some same
last_place_at name (x ∷ pre) es j h =
    let same : suc (length pre + j) ≡ suc (length pre) + j = omega arith in
    ap (λ (o : Option ℕ). later_place o (is_name name x.name)) (last_place_at name pre es j h) ∙ ap Some same

nothing_later : (e : IndexEntry) (o : Option IndexEntry) (here : Bool) → later o (cond here (Some e) None) ≡ None → (o ≡ None) × (here ≡ false)
nothing_later e (Some x) here h = absurd (none-some x (sym h))
nothing_later e None true h = absurd (none-some e (sym h))
nothing_later e None false h = (refl, refl)

no_last_place : (name : List ℕ) (es : List IndexEntry) → last_of name es ≡ None → last_place name es ≡ None
no_last_place name [] h = refl
no_last_place name (e ∷ es) h =
    let both = nothing_later e (last_of name es) (is_name name e.name) h in
    ap (λ (o : Option ℕ). later_place o (is_name name e.name)) (no_last_place name es both.0) ∙ ap (later_place None) both.1

-- an entry with a name that no later one has
last_at : (name : List ℕ) (pre : List IndexEntry) (e : IndexEntry) (es : List IndexEntry) → is_name name e.name ≡ true → last_of name es ≡ None → last_place name (pre ++ e ∷ es) ≡ Some (length pre)
last_at name pre e es named none =
    let here : last_place name (e ∷ es) ≡ Some 0 = ap (λ (o : Option ℕ). later_place o (is_name name e.name)) (no_last_place name es none) ∙ ap (later_place None) named in
    let same : length pre + 0 ≡ length pre = omega arith in
    last_place_at name pre (e ∷ es) 0 here ∙ ap Some same

later_some : (o : Option ℕ) → (j : ℕ) × (later_place o true ≡ Some j)
later_some (Some i) = (suc i, refl)
later_some None = (0, refl)

some_last_place : (name : List ℕ) (es : List IndexEntry) (d : IndexEntry) → last_of name es ≡ Some d → (j : ℕ) × (last_place name es ≡ Some j)
some_last_place name [] d h = absurd (none-some d h)
some_last_place name (e ∷ es) d h =
    elim (last_cases e (last_of name es) (is_name name e.name) d h) [
      | inl rest ↦ let it = some_last_place name es d rest in (suc it.0, ap (λ (o : Option ℕ). later_place o (is_name name e.name)) it.1)
      | inr here ↦ let it = later_some (last_place name es) in (it.0, ap (later_place (last_place name es)) here.0 ∙ it.1)
    ]

earlier_place : (m n : ℕ) → m < n → (m == n) ≡ false
earlier_place m n lt = elim (cases_Bool (m == n)) [ inl same ↦ absurd (omega (arith, lt, eqb-true m n same)) | inr apart ↦ apart ]

-- ---- entries in a list

none_named : (name : List ℕ) (es : List IndexEntry) → last_of name es ≡ None → All (λ (e : IndexEntry). is_name name e.name ≡ false) es
none_named name [] h = All-nil (λ (e : IndexEntry). is_name name e.name ≡ false)
none_named name (e ∷ es) h =
    let both = nothing_later e (last_of name es) (is_name name e.name) h in
    All-cons (λ (x : IndexEntry). is_name name x.name ≡ false) e es both.1 (none_named name es both.0)

last_there : (name : List ℕ) (es : List IndexEntry) (d : IndexEntry) → last_of name es ≡ Some d → Contains es d
last_there name [] d h = absurd (none-some d h)
last_there name (e ∷ es) d h =
    elim (last_cases e (last_of name es) (is_name name e.name) d h) [
      | inl rest ↦ Contains-append_right (e ∷ []) es d (last_there name es d rest)
      | inr here ↦ subst (λ (x : IndexEntry). Contains (e ∷ es) x) here.1 (here_is e es)
    ]

key_among : (es : List IndexEntry) (e : IndexEntry) (k : Descriptor) → Contains es e → e.key ≡ Some k → is_among (entry_keys es) k ≡ true
key_among [] e k c is = absurd (no_element e c)
key_among (x ∷ es) e k c is =
    elim (Contains-append_cases (x ∷ []) es e c) [
      | inl here ↦
          let key : x.key ≡ Some k = ap (λ (y : IndexEntry). y.key) (one_is x e here) ∙ is in
          subst (λ (ks : List Descriptor). is_among ks k ≡ true) (sym (first_key x es k key)) (or_left (same_key k k) (is_among (entry_keys es) k) ((Decides-same_key k k).1 refl))
      | inr rest ↦
          let ih : is_among (entry_keys es) k ≡ true = key_among es e k rest is in
          elim (key_or_none x.key) [
            | inl it ↦ subst (λ (ks : List Descriptor). is_among ks k ≡ true) (sym (first_key x es it.0 it.1)) (or_right (same_key it.0 k) (is_among (entry_keys es) k) ih)
            | inr none ↦ subst (λ (ks : List Descriptor). is_among ks k ≡ true) (sym (no_first_key x es none)) ih
          ]
    ]

among_absent : (graph : List Node) (ks : List Descriptor) (k : Descriptor) → has_key graph k ≡ false → is_among ks k ≡ true → is_among (absent_in graph ks) k ≡ true
among_absent graph [] k gone h = cc h
among_absent graph (x ∷ ks) k gone h =
    elim (cases_Bool (same_key x k)) [
      | inl same ↦
          let lost : has_key graph x ≡ false = ap (has_key graph) ((Decides-same_key x k).0 same) ∙ gone in
          rw lost (or_left (same_key x k) (is_among (absent_in graph ks) k) same)
      | inr apart ↦
          let rest = among_absent graph ks k gone (rw apart at h) in
          elim (has_key graph x) as (λ b. is_among (cond (not b) (x ∷ absent_in graph ks) (absent_in graph ks)) k ≡ true) [
            | true ↦ rest
            | false ↦ or_right (same_key x k) (is_among (absent_in graph ks) k) rest
          ]
    ]

filter_none : (p : IndexEntry → Bool) (es : List IndexEntry) → All (λ (e : IndexEntry). p e ≡ false) es → filter p es ≡ []
filter_none p [] h = refl
filter_none p (e ∷ es) h = ap (λ (b : Bool). cond b (e ∷ filter p es) (filter p es)) (All-head (λ (x : IndexEntry). p x ≡ false) e es h) ∙ filter_none p es (All-tail (λ (x : IndexEntry). p x ≡ false) e es h)

filter_all : (p : IndexEntry → Bool) (es : List IndexEntry) → All (λ (e : IndexEntry). p e ≡ true) es → filter p es ≡ es
filter_all p [] h = refl
filter_all p (e ∷ es) h = ap (λ (b : Bool). cond b (e ∷ filter p es) (filter p es)) (All-head (λ (x : IndexEntry). p x ≡ true) e es h) ∙ ap (λ (xs : List IndexEntry). e ∷ xs) (filter_all p es (All-tail (λ (x : IndexEntry). p x ≡ true) e es h))

unnamed_append : (xs ys : List IndexEntry) → unnamed_keys (xs ++ ys) ≡ unnamed_keys xs ++ unnamed_keys ys
unnamed_append xs ys = ap entry_keys (filter-append (λ (e : IndexEntry). no_name e.name) xs ys) ∙ entry_keys-append (filter (λ (e : IndexEntry). no_name e.name) xs) (filter (λ (e : IndexEntry). no_name e.name) ys)

empty_of : (ks : List Descriptor) → ((k : Descriptor) → Contains ks k → ⊥) → ks ≡ []
empty_of [] h = refl
empty_of (k ∷ ks) h = absurd (h k (here_is k ks))

-- ---- the entries that come first

module _ (absent : Descriptor → Bool) (graph : List Node) (tags : Tags) (all : List IndexEntry) where
  first_all : (bound place : ℕ) (xs : List IndexEntry) → place + length xs ≤ bound → All (λ (e : IndexEntry). (n : ℕ) → n < bound → is_first absent graph tags all n e.key e.name ≡ true) xs → first_from absent graph tags all place xs ≡ xs
  first_all bound place [] within h = refl
  first_all bound place (e ∷ xs) within h =
      let P : IndexEntry → Type 0 = λ (x : IndexEntry). (n : ℕ) → n < bound → is_first absent graph tags all n x.key x.name ≡ true in
      let rest : List IndexEntry = first_from absent graph tags all (suc place) xs in
      ap (λ (b : Bool). cond b (e ∷ rest) rest) (All-head P e xs h place (omega (arith, within)))
      ∙ ap (λ (es : List IndexEntry). e ∷ es) (first_all bound (suc place) xs (omega (arith, within)) (All-tail P e xs h))

  first_none : (place : ℕ) (xs : List IndexEntry) → All (λ (e : IndexEntry). (n : ℕ) → is_first absent graph tags all n e.key e.name ≡ false) xs → first_from absent graph tags all place xs ≡ []
  first_none place [] h = refl
  first_none place (e ∷ xs) h =
      let P : IndexEntry → Type 0 = λ (x : IndexEntry). (n : ℕ) → is_first absent graph tags all n x.key x.name ≡ false in
      let rest : List IndexEntry = first_from absent graph tags all (suc place) xs in
      ap (λ (b : Bool). cond b (e ∷ rest) rest) (All-head P e xs h place) ∙ first_none (suc place) xs (All-tail P e xs h)

  first_append : (place n : ℕ) (xs ys : List IndexEntry) → n ≡ place + length xs → first_from absent graph tags all place (xs ++ ys) ≡ first_from absent graph tags all place xs ++ first_from absent graph tags all n ys
  first_append place n [] ys h =
      let same : place ≡ n = omega (arith, h) in
      ap (λ (p : ℕ). first_from absent graph tags all p ys) same
  first_append place n (x ∷ xs) ys h =
      let rest : List IndexEntry = first_from absent graph tags all (suc place) xs in
      let more : List IndexEntry = first_from absent graph tags all (suc place) (xs ++ ys) in
      let last : List IndexEntry = first_from absent graph tags all n ys in
      let ih : more ≡ rest ++ last = first_append (suc place) n xs ys (omega (arith, h)) in
      elim (is_first absent graph tags all place x.key x.name) as (λ b. cond b (x ∷ more) more ≡ cond b (x ∷ rest) rest ++ last) [
        | true ↦ ap (λ (es : List IndexEntry). x ∷ es) ih
        | false ↦ ih
      ]

  unnamed_first : (n : ℕ) (key : Option Descriptor) (name : Option (List ℕ)) → no_name name ≡ true → is_first absent graph tags all n key name ≡ is_missing absent graph key
  unnamed_first n key None h = refl
  unnamed_first n key (Some []) h = refl
  unnamed_first n key (Some (c ∷ cs)) h = cc h

  first_missing : (place : ℕ) (es : List IndexEntry) → All (λ (e : IndexEntry). no_name e.name ≡ true → is_missing absent graph e.key ≡ true) (first_from absent graph tags all place es)
  first_missing place [] = All-nil (λ (e : IndexEntry). no_name e.name ≡ true → is_missing absent graph e.key ≡ true)
  first_missing place (e ∷ es) =
      let P : IndexEntry → Type 0 = λ (x : IndexEntry). no_name x.name ≡ true → is_missing absent graph x.key ≡ true in
      let rest : List IndexEntry = first_from absent graph tags all (suc place) es in
      let ih : All P rest = first_missing (suc place) es in
      elim (cases_Bool (is_first absent graph tags all place e.key e.name)) [
        | inl is ↦ subst (λ (b : Bool). All P (cond b (e ∷ rest) rest)) (sym is) (All-cons P e rest (λ none. sym (unnamed_first place e.key e.name none) ∙ is) ih)
        | inr other ↦ subst (λ (b : Bool). All P (cond b (e ∷ rest) rest)) (sym other) ih
      ]

-- each tag has its key
still_found : (t : List ℕ × Descriptor) (tags us : Tags) → AllByRecursion (λ (n : List ℕ). slice_cmp nat_cmp t.0 n ≡ Less) (keys_of us) → All (λ (u : List ℕ × Descriptor). tag_at tags u.0 ≡ Some u.1) us
    → All (λ (u : List ℕ × Descriptor). tag_at (t ∷ tags) u.0 ≡ Some u.1) us
still_found t tags [] below h = All-nil (λ (u : List ℕ × Descriptor). tag_at (t ∷ tags) u.0 ≡ Some u.1)
still_found t tags (u ∷ us) below h =
    let P : List ℕ × Descriptor → Type 0 = λ (x : List ℕ × Descriptor). tag_at tags x.0 ≡ Some x.1 in
    let apart : bytes_eq t.0 u.0 ≡ false = sym (is_eq-slice_cmp t.0 u.0) ∙ ap is_eq below.0 in
    let turned : bytes_eq u.0 t.0 ≡ false = elim (cases_Bool (bytes_eq u.0 t.0)) [
      | inl same ↦ cc (sym apart ∙ (bytes_eq-Decides t.0 u.0).1 (sym ((bytes_eq-Decides u.0 t.0).0 same)))
      | inr other ↦ other
    ] in
    All-cons (λ (x : List ℕ × Descriptor). tag_at (t ∷ tags) x.0 ≡ Some x.1) u us (ap (λ (b : Bool). cond b (Some t.1) (tag_at tags u.0)) turned ∙ All-head P u us h) (still_found t tags us below.1 (All-tail P u us h))

all_found : (tags : Tags) → IsOrdered tags → All (λ (t : List ℕ × Descriptor). tag_at tags t.0 ≡ Some t.1) tags
unfolding IsStrictlySortedBy
all_found [] s = All-nil (λ (t : List ℕ × Descriptor). tag_at [] t.0 ≡ Some t.1)
all_found (t ∷ tags) s = All-cons (λ (u : List ℕ × Descriptor). tag_at (t ∷ tags) u.0 ≡ Some u.1) t tags (first_at t tags) (still_found t tags tags s.0 (all_found tags s.1))

-- the last entry with the name of a tag is the tag's
last_never : (absent : Descriptor → Bool) (k : Descriptor) (o : Option IndexEntry) → comes_before absent (Some k) true o ≡ false
last_never absent k None = refl
last_never absent k (Some e) = and_false (is_this_key k e.key)

tag_not_first : (absent : Descriptor → Bool) (graph : List Node) (tags : Tags) (all : List IndexEntry) (n : ℕ) (key : Option Descriptor) (name : List ℕ) (tagged : Descriptor) → name ≢ [] → tag_at tags name ≡ Some tagged
    → last_place name all ≡ Some n → is_first absent graph tags all n key (Some name) ≡ false
tag_not_first absent graph tags all n key [] tagged full at last = absurd (full refl)
tag_not_first absent graph tags all n key (c ∷ cs) tagged full at last =
    let name : List ℕ = c ∷ cs in
    let here : Bool = is_place n (last_place name all) in
    let place : here ≡ true = ap (is_place n) last ∙ (Decides-eqb n n).1 refl in
    let entry : Option IndexEntry = last_entry name all in
    ap (λ (b : Bool). is_left absent graph key && b) (
    ap (λ (o : Option Descriptor). comes_before absent o here entry) at ∙ ap (λ (b : Bool). comes_before absent (Some tagged) b entry) place ∙ last_never absent tagged entry
    ) ∙ and_false (is_left absent graph key)

-- ---- all entries

module _ (absent : List Descriptor) (entries : List IndexEntry) (graph : List Node) (tags : Tags) (loose : List Descriptor) (are : AreLoose graph tags entries loose) (again : List Node)
    (same : (k : Descriptor) → has_key again k ≡ has_key graph k) (unheld : All (λ (k : Descriptor). has_key graph k ≡ false) absent) (names : AreNames graph tags) (sorted : IsOrdered tags) where
  abbrev first : List IndexEntry
  first = first_from (is_among absent) graph tags entries 0 entries

  abbrev of_tags : List IndexEntry
  of_tags = map (tag_entry entries) tags

  abbrev of_loose : List IndexEntry
  of_loose = unnamed_held graph entries ++ loose_entries loose

  abbrev saved : List IndexEntry
  saved = saved_entries absent entries graph tags loose

  -- the keys that are absent when the entries are read
  abbrev lost : Descriptor → Bool
  lost = is_among (absent_in again (entry_keys saved))

  lost_key : (e : IndexEntry) → Contains saved e → (key : Option Descriptor) → e.key ≡ key → is_held again key ≡ false → was_absent lost key ≡ true
  lost_key e c None is gone = refl
  lost_key e c (Some k) is gone = among_absent again (entry_keys saved) k gone (key_among saved e k c is)

  is_lost : (e : IndexEntry) → Contains saved e → is_held again e.key ≡ false → was_absent lost e.key ≡ true
  is_lost e c gone = lost_key e c e.key refl gone

  held_too : (key : Option Descriptor) → is_held again key ≡ is_held graph key
  held_too key = same_held graph again same key

  left : (e : IndexEntry) → Contains saved e → is_left lost again e.key ≡ true
  left e c =
      elim (cases_Bool (is_held again e.key)) [
        | inl held ↦ or_right (was_absent lost e.key) (is_held again e.key) held
        | inr gone ↦ or_left (was_absent lost e.key) (is_held again e.key) (is_lost e c gone)
      ]

  -- an entry that came first comes first again
  first_unnamed : (e : IndexEntry) → Contains first e → no_name e.name ≡ true → is_missing lost again e.key ≡ true
  first_unnamed e c none =
      let missing : is_missing (is_among absent) graph e.key ≡ true =
      All-contains (λ (x : IndexEntry). no_name x.name ≡ true → is_missing (is_among absent) graph x.key ≡ true) first e (first_missing (is_among absent) graph tags entries 0 entries) c none in
      let gone : is_held again e.key ≡ false = held_too e.key ∙ not-true (is_held graph e.key) (and_parts (was_absent (is_among absent) e.key) (not (is_held graph e.key)) missing).1 in
      and_from (was_absent lost e.key) (not (is_held again e.key)) (is_lost e (Contains-append_left first (of_tags ++ of_loose) e c) gone) (not_from_false (is_held again e.key) gone)

  before_tag : (n : ℕ) (name : List ℕ) → name ≢ [] → n < length first → (k : Descriptor) → tag_at tags name ≡ Some k → comes_before lost (tag_at tags name) (is_place n (last_place name saved)) (last_entry name saved) ≡ true
  before_tag n name full lt k at =
      let entry : IndexEntry = tag_entry entries (name, k) in
      let tail : last_of name (of_tags ++ of_loose) ≡ Some entry = tail_last absent entries graph tags loose are tags name full sorted ∙ ap (option_map (λ (j : Descriptor). tag_entry entries (name, j))) at in
      let it = some_last_place name (of_tags ++ of_loose) entry tail in
      let place : is_place n (last_place name saved) ≡ false = ap (is_place n) (last_place_at name first (of_tags ++ of_loose) it.0 it.1) ∙ earlier_place n (length first + it.0) (omega (arith, lt)) in
      let last : last_entry name saved ≡ Some entry =
      last_entry-last_of name saved ∙ saved_last absent entries graph tags loose are name full sorted ∙ ap (λ (o : Option Descriptor). later (option_map (λ (j : Descriptor). tag_entry entries (name, j)) o) (last_of name first)) at in
      ap (λ (o : Option Descriptor). comes_before lost o (is_place n (last_place name saved)) (last_entry name saved)) at
      ∙ ap (λ (b : Bool). comes_before lost (Some k) b (last_entry name saved)) place
      ∙ ap (comes_before lost (Some k) false) last
      ∙ ap (λ (b : Bool). b && true) (this_key_from k entry.key (tag_key entries (name, k)))

  before_none : (n : ℕ) (e : IndexEntry) (name : List ℕ) → name ≢ [] → Contains first e → e.name ≡ Some name → tag_at tags name ≡ None → (o : Option IndexEntry) → last_of name first ≡ o
      → comes_before lost (tag_at tags name) (is_place n (last_place name saved)) (last_entry name saved) ≡ true
  before_none n e name full c is at None last =
      let no : is_name name e.name ≡ false = All-contains (λ (x : IndexEntry). is_name name x.name ≡ false) first e (none_named name first last) c in
      cc (sym no ∙ ap (is_name name) is ∙ same_bytes name)
  before_none n e name full c is at (Some d) last =
      let gone : is_held again d.key ≡ false = held_too d.key ∙ unheld_key absent entries graph tags loose are again same unheld names sorted d.key (first_absent (is_among absent) graph tags entries name full at d last) in
      let there : Contains saved d = Contains-append_left first (of_tags ++ of_loose) d (last_there name first d last) in
      let found : last_entry name saved ≡ Some d =
      last_entry-last_of name saved ∙ saved_last absent entries graph tags loose are name full sorted
      ∙ ap (λ (o : Option Descriptor). later (option_map (λ (j : Descriptor). tag_entry entries (name, j)) o) (last_of name first)) at ∙ last in
      ap (λ (o : Option Descriptor). comes_before lost o (is_place n (last_place name saved)) (last_entry name saved)) at
      ∙ owns_before lost (is_place n (last_place name saved)) (last_entry name saved) ∙ ap (owns lost) found ∙ is_lost d there gone

  before : (n : ℕ) (e : IndexEntry) (name : List ℕ) → name ≢ [] → Contains first e → e.name ≡ Some name → n < length first → (o : Option Descriptor) → tag_at tags name ≡ o
      → comes_before lost (tag_at tags name) (is_place n (last_place name saved)) (last_entry name saved) ≡ true
  before n e name full c is lt (Some k) at = before_tag n name full lt k at
  before n e name full c is lt None at = before_none n e name full c is at (last_of name first) refl

  still_first : (e : IndexEntry) → Contains first e → (n : ℕ) → n < length first → (name : Option (List ℕ)) → e.name ≡ name → is_first lost again tags saved n e.key name ≡ true
  still_first e c n lt None is = first_unnamed e c (ap no_name is)
  still_first e c n lt (Some []) is = first_unnamed e c (ap no_name is)
  still_first e c n lt (Some (x ∷ xs)) is =
      and_from (is_left lost again e.key) (comes_before lost (tag_at tags (x ∷ xs)) (is_place n (last_place (x ∷ xs) saved)) (last_entry (x ∷ xs) saved)) (left e (Contains-append_left first (of_tags ++ of_loose) e c))
      (before n e (x ∷ xs) (λ h. cc h) c is lt (tag_at tags (x ∷ xs)) refl)

  firsts_again : first_from lost again tags saved 0 first ≡ first
  firsts_again =
      let within : 0 + length first ≤ length first = omega arith in
      first_all lost again tags saved (length first) 0 first within
      (each_of (λ (e : IndexEntry). (n : ℕ) → n < length first → is_first lost again tags saved n e.key e.name ≡ true) first (λ e c n lt. still_first e c n lt e.name refl))

  -- an entry of a tag does not
  tags_not_first : (pre : List IndexEntry) (n : ℕ) (rest : Tags) → n ≡ length pre → saved ≡ pre ++ (map (tag_entry entries) rest ++ of_loose) → IsOrdered rest → All (λ (m : List ℕ). m ≢ []) (keys_of rest)
      → All (λ (t : List ℕ × Descriptor). tag_at tags t.0 ≡ Some t.1) rest → first_from lost again tags saved n (map (tag_entry entries) rest) ≡ []
  unfolding IsStrictlySortedBy
  tags_not_first pre n [] long is s full found = refl
  tags_not_first pre n (t ∷ rest) long is s full found =
      let e : IndexEntry = tag_entry entries t in
      let es : List IndexEntry = map (tag_entry entries) rest ++ of_loose in
      let named : t.0 ≢ [] = All-head (λ (m : List ℕ). m ≢ []) t.0 (keys_of rest) full in
      let none : last_of t.0 es ≡ None = tail_last absent entries graph tags loose are rest t.0 named s.1 ∙ ap (option_map (λ (k : Descriptor). tag_entry entries (t.0, k))) (below_none t.0 rest s.0) in
      let place : last_place t.0 saved ≡ Some n = ap (last_place t.0) is ∙ last_at t.0 pre e es (ap (is_name t.0) (tag_name entries t) ∙ same_bytes t.0) none ∙ ap Some (sym long) in
      let not_first : is_first lost again tags saved n e.key e.name ≡ false =
      ap (is_first lost again tags saved n e.key) (tag_name entries t) ∙ tag_not_first lost again tags saved n e.key t.0 t.1 named (All-head (λ (u : List ℕ × Descriptor). tag_at tags u.0 ≡ Some u.1) t rest found) place in
      let later_ones : List IndexEntry = first_from lost again tags saved (suc n) (map (tag_entry entries) rest) in
      let longer : suc n ≡ length (pre ++ e ∷ []) = omega (arith, long, length-append pre (e ∷ [])) in
      ap (λ (b : Bool). cond b (e ∷ later_ones) later_ones) not_first
      ∙ tags_not_first (pre ++ e ∷ []) (suc n) rest longer (is ∙ sym (append_assoc pre (e ∷ []) es)) s.1 (All-tail (λ (m : List ℕ). m ≢ []) t.0 (keys_of rest) full)
      (All-tail (λ (u : List ℕ × Descriptor). tag_at tags u.0 ≡ Some u.1) t rest found)

  abbrev nameless : All (IsNameless graph) of_loose
  nameless = all_nameless absent entries graph tags loose are

  loose_not_first : (n : ℕ) → first_from lost again tags saved n of_loose ≡ []
  loose_not_first n =
      first_none lost again tags saved n of_loose (All-weaker (IsNameless graph) (λ (e : IndexEntry). (m : ℕ) → is_first lost again tags saved m e.key e.name ≡ false) (λ e h m.
      unnamed_first lost again tags saved m e.key e.name h.0
      ∙ ap (λ (b : Bool). was_absent lost e.key && not b) (held_too e.key ∙ h.1) ∙ and_false (was_absent lost e.key)) of_loose nameless)

  first_twice : first_from lost again tags saved 0 saved ≡ first
  first_twice =
      let n : ℕ = length first in
      let m : ℕ = n + length of_tags in
      let from_start : n ≡ 0 + n = omega arith in
      first_append lost again tags saved 0 n first (of_tags ++ of_loose) from_start
      ∙ ap (λ (es : List IndexEntry). es ++ first_from lost again tags saved n (of_tags ++ of_loose)) firsts_again
      ∙ ap (λ (es : List IndexEntry). first ++ es) (
      first_append lost again tags saved n m of_tags of_loose refl
      ∙ ap (λ (es : List IndexEntry). es ++ first_from lost again tags saved m of_loose) (tags_not_first first n tags refl refl sorted names.named (all_found tags sorted))
      ∙ loose_not_first m
      )
      ∙ append-nil first

  -- the entries of tags are the same
  tags_twice : (us : Tags) → All (λ (m : List ℕ). m ≢ []) (keys_of us) → All (λ (t : List ℕ × Descriptor). tag_at tags t.0 ≡ Some t.1) us → map (tag_entry saved) us ≡ map (tag_entry entries) us
  tags_twice [] full found = refl
  tags_twice (t ∷ us) full found =
      let e : IndexEntry = tag_entry entries t in
      let named : t.0 ≢ [] = All-head (λ (m : List ℕ). m ≢ []) t.0 (keys_of us) full in
      let at : tag_at tags t.0 ≡ Some t.1 = All-head (λ (u : List ℕ × Descriptor). tag_at tags u.0 ≡ Some u.1) t us found in
      let last : last_entry t.0 saved ≡ Some e =
      last_entry-last_of t.0 saved ∙ saved_last absent entries graph tags loose are t.0 named sorted ∙ ap (λ (o : Option Descriptor). later (option_map (λ (j : Descriptor). tag_entry entries (t.0, j)) o) (last_of t.0 first)) at in
      let is : tag_entry saved t ≡ e = ap (λ (o : Option IndexEntry). entry_or_new o t.1 t.0) last ∙ ap (λ (b : Bool). cond b e (new_entry t.1 (Some t.0))) (this_key_from t.1 e.key (tag_key entries t)) in
      ap (λ (x : IndexEntry). x ∷ map (tag_entry saved) us) is
      ∙ ap (λ (es : List IndexEntry). e ∷ es) (tags_twice us (All-tail (λ (m : List ℕ). m ≢ []) t.0 (keys_of us) full) (All-tail (λ (u : List ℕ × Descriptor). tag_at tags u.0 ≡ Some u.1) t us found))

  -- the entries without a tag are the same
  abbrev is_one : IndexEntry → Bool
  is_one e = no_name e.name && is_held again e.key

  none_of : (e : IndexEntry) → Contains first e → is_one e ≡ false
  none_of e c =
      elim (cases_Bool (no_name e.name)) [
        | inr named ↦ rw named refl
        | inl none ↦
            let gone : is_held again e.key ≡ false = not-true (is_held again e.key) (and_parts (was_absent lost e.key) (not (is_held again e.key)) (first_unnamed e c none)).1 in
            ap (λ (b : Bool). no_name e.name && b) gone ∙ and_false (no_name e.name)
      ]

  unnamed_twice : unnamed_held again saved ≡ of_loose
  unnamed_twice =
      filter-append is_one first (of_tags ++ of_loose)
      ∙ ap (λ (es : List IndexEntry). es ++ filter is_one (of_tags ++ of_loose)) (filter_none is_one first (each_of (λ (e : IndexEntry). is_one e ≡ false) first none_of))
      ∙ filter-append is_one of_tags of_loose
      ∙ ap (λ (es : List IndexEntry). es ++ filter is_one of_loose)
      (filter_none is_one of_tags (All-weaker (λ (e : IndexEntry). no_name e.name ≡ false) (λ (e : IndexEntry). is_one e ≡ false) (λ e h. ap (λ (b : Bool). b && is_held again e.key) h) of_tags (tags_named entries tags names.named)))
      ∙ filter_all is_one of_loose (All-weaker (IsNameless graph) (λ (e : IndexEntry). is_one e ≡ true) (λ e h. and_from (no_name e.name) (is_held again e.key) h.0 (held_too e.key ∙ h.1)) of_loose nameless)

  -- no key gets a new one
  keys_twice : unnamed_keys saved ≡ unnamed_keys first ++ (unnamed_keys of_tags ++ entry_keys of_loose)
  keys_twice =
      unnamed_append first (of_tags ++ of_loose)
      ∙ ap (λ (ks : List Descriptor). unnamed_keys first ++ ks) (unnamed_append of_tags of_loose
      ∙ ap (λ (es : List IndexEntry). unnamed_keys of_tags ++ entry_keys es) (filter_all (λ (e : IndexEntry). no_name e.name) of_loose (All-weaker (IsNameless graph) (λ (e : IndexEntry). no_name e.name ≡ true) (λ e h. h.0) of_loose nameless)))

  pub saved_twice : ((p k : Descriptor) → IsEdge graph p k → IsEdge again p k) → (found : List Descriptor) → AreLoose again tags saved found → saved_entries (absent_in again (entry_keys saved)) saved again tags found ≡ saved
  saved_twice edges found are_found =
      let none : (k : Descriptor) → Contains found k → ⊥ =
      λ k c. (let it = (are_found.each k).0 c in
      let top : IsTop graph k = elim it.0.is_top [ inl manifest ↦ inl manifest | inr nobody ↦ inr (λ p e. nobody p (edges p k e)) ] in
      let is : IsLoose graph tags k = record { is_there = sym (same k) ∙ it.0.is_there; untagged = it.0.untagged; is_top = top } in
      it.1 (subst (λ (ks : List Descriptor). Contains ks k) (sym keys_twice) (Contains-append_right (unnamed_keys first) (unnamed_keys of_tags ++ entry_keys of_loose) k
      (Contains-append_right (unnamed_keys of_tags) (entry_keys of_loose) k (loose_top absent entries graph tags loose are k is))))) in
      ap (λ (es : List IndexEntry). es ++ (map (tag_entry saved) tags ++ (unnamed_held again saved ++ loose_entries found))) first_twice
      ∙ ap (λ (es : List IndexEntry). first ++ (es ++ (unnamed_held again saved ++ loose_entries found))) (tags_twice tags names.named (all_found tags sorted))
      ∙ ap (λ (es : List IndexEntry). first ++ (of_tags ++ (es ++ loose_entries found))) unnamed_twice
      ∙ ap (λ (ks : List Descriptor). first ++ (of_tags ++ (of_loose ++ loose_entries ks))) (empty_of found none)
      ∙ ap (λ (es : List IndexEntry). first ++ (of_tags ++ es)) (append-nil of_loose)
