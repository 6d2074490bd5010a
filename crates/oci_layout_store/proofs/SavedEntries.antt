-- The entries that a save writes, one more at a time.
use Rattle.std.proofs.Common.{◌≡◌, ℕ, suc, ◌+◌, ◌<◌, Bool, true, false, cond, not, ◌&&◌, ◌||◌, List, [], ◌∷◌, ◌++◌, map, filter, length, take, get_or, Option, Some, None, String, Global, string_bytes, refl, sym, ap, ◌∙◌, arith, append_assoc}
use Rattle.std.specs.BTreeSet.{BTreeSet, contains}
use Rattle.std.specs.Ordering.{is_eq}
use Rattle.std.proofs.lemmas.List.{map-append, take_more}
use Rattle.oci_manifest.specs.Descriptor.{Descriptor, is_among, key_cmp, same_key}
use Rattle.oci_store.specs.Graph.{Node}
use Rattle.oci_store.specs.Keyed.{has_key, HasAll}
use Rattle.oci_store.specs.Tags.{Tags, by_bytes, tag_at}
use Rattle.oci_store.proofs.KeyOrder.{cond-or, is_eq-key_cmp}
use Rattle.oci_layout_store.specs.Entries.{IndexEntry, entry_keys, entry_of, is_held}
use Rattle.oci_layout_store.specs.Saved.{comes_before, first_entries, first_from, is_first, is_place, last_entry, last_place, loose_entries, named_held, no_name, saved_entries, tag_entry, unnamed_held, was_absent}
use Rattle.oci_layout_store.specs.declared.index.IndexEntry.{IndexEntry as CodeEntry}
use Rattle.std.proofs.lemmas.Bool.{and_parts}
use Rattle.std.proofs.lemmas.List.Elements.{All-weaker, filter-append, filter_passes}
use Rattle.oci_layout_store.proofs.EntryKeys.{all_keys, entry_keys-append}
use Rattle.oci_layout_store.proofs.Opened.{next_entry}
use Rattle.oci_layout_store.proofs.LastNames.{entries-more, length-entries}

-- ---- a set of keys

or-false : (b : Bool) → (b || false) ≡ b
or-false true = refl
or-false false = refl

is_among-more : (keys : List Descriptor) (k other : Descriptor) → is_among (keys ++ k ∷ []) other ≡ (is_among keys other || same_key k other)
is_among-more [] k other = or-false (same_key k other)
is_among-more (j ∷ keys) k other =
    elim (same_key j other) as (λ b. (b || is_among (keys ++ k ∷ []) other) ≡ ((b || is_among keys other) || same_key k other)) [
      | true ↦ refl
      | false ↦ is_among-more keys k other
    ]

-- a set has just these keys
abbrev pub HasAmong : BTreeSet Descriptor → List Descriptor → Type 0
HasAmong set keys = (k : Descriptor) → contains key_cmp set k ≡ is_among keys k

pub HasAmong-more : (old new : BTreeSet Descriptor) (keys : List Descriptor) (i : ℕ) (k copy : Descriptor) → i < length keys → k ≡ get_or keys i k → copy ≡ k → HasAmong old (take i keys)
    → ((other : Descriptor) → contains key_cmp new other ≡ cond (is_eq (key_cmp copy other)) true (contains key_cmp old other)) → HasAmong new (take (i + 1) keys)
HasAmong-more old new keys i k copy lt is same before grown other =
    grown other
    ∙ ap (λ (b : Bool). cond b true (contains key_cmp old other)) (is_eq-key_cmp copy other)
    ∙ cond-or (same_key copy other) (contains key_cmp old other)
    ∙ ap (λ (b : Bool). b || same_key copy other) (before other)
    ∙ ap (λ (j : Descriptor). is_among (take i keys) other || same_key j other) (same ∙ is)
    ∙ sym (is_among-more (take i keys) (get_or keys i k) other)
    ∙ ap (λ (ks : List Descriptor). is_among ks other) (sym (take_more keys i k lt))

-- ---- the entries that come first

first_from-more : (absent : Descriptor → Bool) (graph : List Node) (tags : Tags) (all : List IndexEntry) (place : ℕ) (es : List IndexEntry) (e : IndexEntry) (n : ℕ) → n ≡ place + length es
    → first_from absent graph tags all place (es ++ e ∷ []) ≡ first_from absent graph tags all place es ++ cond (is_first absent graph tags all n e.key e.name) (e ∷ []) []
first_from-more absent graph tags all place [] e n h =
    let same : place ≡ n = omega arith in
    ap (λ (p : ℕ). cond (is_first absent graph tags all p e.key e.name) (e ∷ []) []) same
first_from-more absent graph tags all place (d ∷ es) e n h =
    let later = first_from-more absent graph tags all (suc place) es e n (omega arith) in
    let rest = first_from absent graph tags all (suc place) es in
    let more = first_from absent graph tags all (suc place) (es ++ e ∷ []) in
    let last = cond (is_first absent graph tags all n e.key e.name) (e ∷ []) [] in
    elim (is_first absent graph tags all place d.key d.name) as (λ b. cond b (d ∷ more) more ≡ cond b (d ∷ rest) rest ++ last) [
      | true ↦ ap (λ (xs : List IndexEntry). d ∷ xs) later
      | false ↦ later
    ]

pub first_entries-more : (absent : Descriptor → Bool) (graph : List Node) (tags : Tags) (es : List CodeEntry) (i : ℕ) (e : CodeEntry) (first : List IndexEntry) → i < length es → e ≡ get_or es i e
    → first ≡ first_from absent graph tags (map entry_of es) 0 (map entry_of (take i es))
    → first ++ cond (is_first absent graph tags (map entry_of es) i (entry_of e).key (entry_of e).name) (entry_of e ∷ []) [] ≡ first_from absent graph tags (map entry_of es) 0 (map entry_of (take (i + 1) es))
first_entries-more absent graph tags es i e first lt is before =
    ap (λ (xs : List IndexEntry). xs ++ cond (is_first absent graph tags (map entry_of es) i (entry_of e).key (entry_of e).name) (entry_of e ∷ []) []) before
    ∙ sym (first_from-more absent graph tags (map entry_of es) 0 (map entry_of (take i es)) (entry_of e) i (omega (arith, length-entries es i lt)))
    ∙ ap (first_from absent graph tags (map entry_of es) 0) (sym (entries-more es i e lt is))

-- two tests of a key that agree
was_absent-same : (p q : Descriptor → Bool) → ((k : Descriptor) → p k ≡ q k) → (key : Option Descriptor) → was_absent p key ≡ was_absent q key
was_absent-same p q h None = refl
was_absent-same p q h (Some k) = h k

comes_before-same : (p q : Descriptor → Bool) → ((k : Descriptor) → p k ≡ q k) → (tagged : Option Descriptor) (is_last : Bool) (last : Option IndexEntry) → comes_before p tagged is_last last ≡ comes_before q tagged is_last last
comes_before-same p q h tagged is_last None = refl
comes_before-same p q h None is_last (Some last) = ap (λ (b : Bool). b && (not is_last || true)) (was_absent-same p q h last.key)
comes_before-same p q h (Some k) is_last (Some last) = refl

is_first-same : (p q : Descriptor → Bool) → ((k : Descriptor) → p k ≡ q k) → (graph : List Node) (tags : Tags) (all : List IndexEntry) (place : ℕ) (key : Option Descriptor) (name : Option (List ℕ))
    → is_first p graph tags all place key name ≡ is_first q graph tags all place key name
is_first-same p q h graph tags all place key None = ap (λ (b : Bool). b && not (is_held graph key)) (was_absent-same p q h key)
is_first-same p q h graph tags all place key (Some []) = ap (λ (b : Bool). b && not (is_held graph key)) (was_absent-same p q h key)
is_first-same p q h graph tags all place key (Some (c ∷ cs)) =
    ap (λ (b : Bool). (b || is_held graph key) && comes_before p (tag_at tags (c ∷ cs)) (is_place place (last_place (c ∷ cs) all)) (last_entry (c ∷ cs) all)) (was_absent-same p q h key)
    ∙ ap (λ (b : Bool). (was_absent q key || is_held graph key) && b) (comes_before-same p q h (tag_at tags (c ∷ cs)) (is_place place (last_place (c ∷ cs) all)) (last_entry (c ∷ cs) all))

first_from-same : (p q : Descriptor → Bool) → ((k : Descriptor) → p k ≡ q k) → (graph : List Node) (tags : Tags) (all : List IndexEntry) (place : ℕ) (es : List IndexEntry)
    → first_from p graph tags all place es ≡ first_from q graph tags all place es
first_from-same p q h graph tags all place [] = refl
first_from-same p q h graph tags all place (e ∷ es) =
    let rest = first_from p graph tags all (suc place) es in
    ap (λ (b : Bool). cond b (e ∷ rest) rest) (is_first-same p q h graph tags all place e.key e.name)
    ∙ ap (λ (xs : List IndexEntry). cond (is_first q graph tags all place e.key e.name) (e ∷ xs) xs) (first_from-same p q h graph tags all (suc place) es)

-- ---- the entries that follow

more : {X : Type 0} (f : X → IndexEntry) (first : List IndexEntry) (xs : List X) (x : X) (e : IndexEntry) → e ≡ f x → (first ++ map f xs) ++ e ∷ [] ≡ first ++ map f (xs ++ x ∷ [])
more f first xs x e is =
    append_assoc first (map f xs) (e ∷ [])
    ∙ ap (λ (es : List IndexEntry). first ++ es) (ap (λ (d : IndexEntry). map f xs ++ d ∷ []) is ∙ sym (map-append f xs (x ∷ [])))

-- the entries of the code, with one at the end
pub pushed : (old new : List CodeEntry) (e : CodeEntry) → new ≡ old ++ e ∷ [] → map entry_of new ≡ map entry_of old ++ entry_of e ∷ []
pushed old new e is = ap (map entry_of) is ∙ map-append entry_of old (e ∷ [])

pub entries-pushed : {X : Type 0} (f : X → IndexEntry) (first : List IndexEntry) (xs : List X) (x : X) (old new : List CodeEntry) (e : CodeEntry) → map entry_of old ≡ first ++ map f xs
    → new ≡ old ++ e ∷ [] → entry_of e ≡ f x → map entry_of new ≡ first ++ map f (xs ++ x ∷ [])
entries-pushed f first xs x old new e before is entry = pushed old new e is ∙ ap (λ (es : List IndexEntry). es ++ entry_of e ∷ []) before ∙ more f first xs x (entry_of e) entry

pub by_bytes-more : (tags : List (String Global × Descriptor)) (t : String Global × Descriptor) → by_bytes (tags ++ t ∷ []) ≡ by_bytes tags ++ (string_bytes t.0, t.1) ∷ []
by_bytes-more tags t = map-append (λ (e : String Global × Descriptor). (string_bytes e.0, e.1)) tags (t ∷ [])

-- the entries without a name whose keys are held, one entry more
pub unnamed_held-more : (graph : List Node) (es : List CodeEntry) (i : ℕ) (e : CodeEntry) (first old new : List IndexEntry) → i < length es → e ≡ get_or es i e → old ≡ first ++ unnamed_held graph (map entry_of (take i es))
    → new ≡ old ++ cond (no_name (entry_of e).name && is_held graph (entry_of e).key) (entry_of e ∷ []) [] → new ≡ first ++ unnamed_held graph (map entry_of (take (i + 1) es))
unnamed_held-more graph es i e first old new lt is before more =
    let one : IndexEntry → Bool = λ (x : IndexEntry). no_name x.name && is_held graph x.key in
    more ∙ ap (λ (xs : List IndexEntry). xs ++ filter one (entry_of e ∷ [])) before
    ∙ append_assoc first (unnamed_held graph (map entry_of (take i es))) (filter one (entry_of e ∷ []))
    ∙ ap (λ (xs : List IndexEntry). first ++ xs) (sym (ap (filter one) (entries-more es i e lt is) ∙ filter-append one (map entry_of (take i es)) (entry_of e ∷ [])))

-- ---- the shadowed entries

named_held-append : (graph : List Node) (xs ys : List IndexEntry) → named_held graph (xs ++ ys) ≡ named_held graph xs ++ named_held graph ys
named_held-append graph xs ys = ap entry_keys (filter-append is_one xs ys) ∙ entry_keys-append (filter is_one xs) (filter is_one ys)
  where
    is_one : IndexEntry → Bool
    is_one e = not (no_name e.name) && is_held graph e.key

pub named_held-more : (graph : List Node) (es : List CodeEntry) (i : ℕ) (e : CodeEntry) (old new : List Descriptor) → i < length es → e ≡ get_or es i e → old ≡ named_held graph (map entry_of (take i es))
    → new ≡ old ++ named_held graph (entry_of e ∷ []) → new ≡ named_held graph (map entry_of (take (i + 1) es))
named_held-more graph es i e old new lt is before more =
    more
    ∙ ap (λ (ks : List Descriptor). ks ++ named_held graph (entry_of e ∷ [])) before
    ∙ sym (named_held-append graph (map entry_of (take i es)) (entry_of e ∷ []))
    ∙ ap (named_held graph) (sym (next_entry es i e lt is))

pub named_held-held : (graph : List Node) (entries : List IndexEntry) → HasAll graph (named_held graph entries)
named_held-held graph entries =
    all_keys (λ (k : Descriptor). has_key graph k ≡ true) (filter is_one entries)
    (All-weaker (λ (e : IndexEntry). is_one e ≡ true) (λ (e : IndexEntry). (k : Descriptor) → e.key ≡ Some k → has_key graph k ≡ true)
    (λ e one k is. sym (ap (is_held graph) is) ∙ (and_parts (not (no_name e.name)) (is_held graph e.key) one).1) (filter is_one entries) (filter_passes is_one entries))
  where
    is_one : IndexEntry → Bool
    is_one e = not (no_name e.name) && is_held graph e.key

pub shadowed-same : (absent : Descriptor → Bool) (keys : List Descriptor) (graph : List Node) (tags : Tags) (all : List IndexEntry) (first : List IndexEntry) (held : List Descriptor) → ((k : Descriptor) → absent k ≡ is_among keys k)
    → first ≡ first_entries absent graph tags all → held ≡ named_held graph first → held ≡ named_held graph (first_entries (is_among keys) graph tags all)
shadowed-same absent keys graph tags all first held same at_first at_held = at_held ∙ ap (named_held graph) (at_first ∙ first_from-same absent (is_among keys) same graph tags all 0 all)

-- ---- all entries

pub saved-all : (absent : Descriptor → Bool) (keys : List Descriptor) (graph : List Node) (tags named : Tags) (all names : List IndexEntry) (loose : List Descriptor) (first second third fourth : List IndexEntry)
    → ((k : Descriptor) → absent k ≡ is_among keys k) → named ≡ tags → names ≡ all → first ≡ first_entries absent graph tags all → second ≡ first ++ map (tag_entry names) named → third ≡ second ++ unnamed_held graph all
    → fourth ≡ third ++ loose_entries loose → fourth ≡ saved_entries keys all graph tags loose
saved-all absent keys graph tags named all names loose first second third fourth same is_tags is_all at_first at_second at_third at_fourth =
    let firsts : List IndexEntry = first_entries (is_among keys) graph tags all in
    let of_tags : List IndexEntry = map (tag_entry all) tags in
    at_fourth
    ∙ ap (λ (es : List IndexEntry). es ++ loose_entries loose) (
    at_third
    ∙ ap (λ (es : List IndexEntry). es ++ unnamed_held graph all) (
    at_second
    ∙ ap (λ (es : List IndexEntry). es ++ map (tag_entry names) named) (at_first ∙ first_from-same absent (is_among keys) same graph tags all 0 all)
    ∙ ap (λ (ts : Tags). firsts ++ map (tag_entry names) ts) is_tags
    ∙ ap (λ (es : List IndexEntry). firsts ++ map (tag_entry es) tags) is_all
    ))
    ∙ append_assoc (firsts ++ of_tags) (unnamed_held graph all) (loose_entries loose)
    ∙ append_assoc firsts of_tags (unnamed_held graph all ++ loose_entries loose)
