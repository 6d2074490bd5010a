-- What a store has after a copy of keys.
use Rattle.std.proofs.Common.{◌≡◌, ℕ, ◌+◌, ◌<◌, Bool, true, false, cond, not, ◌&&◌, ◌⊎◌, inl, inr, List, [], ◌∷◌, ◌++◌, length, take, get_or, filter, Option, option_map, Some, None, is_some, refl, sym, ap, subst, ◌∙◌}
use Rattle.std.specs.Prelude.{◌↔◌, Contains, Result, Ok, Err, OnOk}
use Rattle.std.specs.BTreeSet.{BTreeSet, contains}
use Rattle.std.specs.List.Sorted.{IsStrictlySortedBy}
use Rattle.std.specs.Map.{keys_of}
use Rattle.std.specs.Ordering.{is_eq}
use Rattle.std.specs.Cmp.{both_ways}
use Rattle.std.proofs.lemmas.Bool.{cases_Bool}
use Rattle.std.proofs.lemmas.List.Elements.{Contains-append_left, Contains-push, Contains-push_cases}
use Rattle.std.proofs.lemmas.Map.Entries.{lookup-filter-keys}
use Rattle.std.proofs.lemmas.Map.Views.{btree_set_contains_iff}
use Rattle.oci_manifest.specs.Descriptor.{Descriptor, key_cmp, same_key}
use Rattle.oci_manifest.proofs.Keys.{Decides-same_key}
use Rattle.oci_store.specs.Before.{IsBefore}
use Rattle.oci_store.specs.Graph.{Node, IsEdge}
use Rattle.oci_store.specs.Keyed.{value_at, has_key}
use Rattle.oci_store.specs.State.{State, AnswersFetch}
use Rattle.oci_store.specs.declared.fault.FetchFault.{FetchFault}
use Rattle.oci_store.specs.declared.fault.FetchFault.TheVariants as fetch
use Rattle.oci_store.proofs.KeyOrder.{key_cmp_total, key_cmp_exact}
use Rattle.oci_store.proofs.Lookups.{found, has_key-append_left, has_key-same_keys, value_at-append_left}
use Rattle.oci_store.proofs.Membership.{Contains-from_among, among_from_Contains, among-filter, among_filter_from}
use Rattle.oci_layout_store.proofs.Loose.{set_more}
use Rattle.oci_prune.specs.After.{with_arriving}
use Rattle.oci_prune.specs.Plan.{AreHeld}
use Rattle.oci_prune.proofs.Elements.{next_element, no_element}

-- ---- look-ups

-- what is found, from an answer that holds it in another form
pub found_as : {X Y : Type 0} (f : X → Y) (answer : Option X) (found : Option Y) (x : X) → option_map f answer ≡ found → answer ≡ Some x → found ≡ Some (f x)
found_as f answer found x same is = sym same ∙ ap (λ o. option_map f o) is

pub not_found_as : {X Y : Type 0} (f : X → Y) (answer : Option X) (found : Option Y) → option_map f answer ≡ found → answer ≡ None → found ≡ None
not_found_as f answer found same is = sym same ∙ ap (λ o. option_map f o) is

-- lists with the same keys hold the same keys
pub held_by_keys : {X Y : Type 0} (a : List (Descriptor × X)) (b : List (Descriptor × Y)) (k : Descriptor) → keys_of a ≡ keys_of b → has_key a k ≡ has_key b k
held_by_keys a b k same = both_ways (has_key a k) (has_key b k) (has_key-same_keys a b k same) (has_key-same_keys b a k (sym same))

-- what is not in the first pairs is looked up in the rest
value_at-append_right : {X : Type 0} (a b : List (Descriptor × X)) (k : Descriptor) → has_key a k ≡ false → value_at (a ++ b) k ≡ value_at b k
value_at-append_right [] b k h = refl
value_at-append_right (p ∷ a) b k h =
    elim (cases_Bool (same_key p.0 k)) [
      | inl same ↦ cc (rw same at h)
      | inr other ↦ rw other (value_at-append_right a b k (rw other at h))
    ]

-- what is left of pairs when only some keys stay
pub value_at-filter : {X : Type 0} (arrives : Descriptor → Bool) (b : Bool) (pairs : List (Descriptor × X)) (k : Descriptor) → arrives k ≡ b → value_at (filter (λ (p : Descriptor × X). arrives p.0) pairs) k ≡ cond b (value_at pairs k) None
value_at-filter arrives b pairs k h = lookup-filter-keys (λ other. same_key other k) arrives b (λ j same. ap arrives ((Decides-same_key j k).0 same) ∙ h) pairs

-- a key that is not there before has what arrives
pub value_new : {X : Type 0} (arrives : Descriptor → Bool) (b : Bool) (source there : List (Descriptor × X)) (k : Descriptor) → has_key there k ≡ false → arrives k ≡ b → value_at (with_arriving arrives source there) k ≡ cond b (value_at source k) None
value_new {X} arrives b source there k absent h =
    value_at-append_right there (filter (λ (p : Descriptor × X). arrives p.0) source) k absent ∙ value_at-filter arrives b source k h

-- a key that is there before keeps what it has
pub value_there : {X : Type 0} (arrives : Descriptor → Bool) (source there : List (Descriptor × X)) (k : Descriptor) (x : X) → value_at there k ≡ Some x → value_at (with_arriving arrives source there) k ≡ Some x
value_there {X} arrives source there k x h = value_at-append_left there (filter (λ (p : Descriptor × X). arrives p.0) source) k x h

pub has_key_there : {X : Type 0} (arrives : Descriptor → Bool) (source there : List (Descriptor × X)) (k : Descriptor) → has_key there k ≡ true → has_key (with_arriving arrives source there) k ≡ true
has_key_there {X} arrives source there k h = has_key-append_left there (filter (λ (p : Descriptor × X). arrives p.0) source) k h

pub has_key_new : {X : Type 0} (arrives : Descriptor → Bool) (source there : List (Descriptor × X)) (k : Descriptor) → has_key there k ≡ false → arrives k ≡ true → has_key (with_arriving arrives source there) k ≡ has_key source k
has_key_new arrives source there k absent h = ap is_some (value_new arrives true source there k absent h)

pub has_key_gone : {X : Type 0} (arrives : Descriptor → Bool) (source there : List (Descriptor × X)) (k : Descriptor) → has_key there k ≡ false → arrives k ≡ false → has_key (with_arriving arrives source there) k ≡ false
has_key_gone arrives source there k absent h = ap is_some (value_new arrives false source there k absent h)

pub absent_value : {X : Type 0} (pairs : List (Descriptor × X)) (k : Descriptor) → value_at pairs k ≡ None → has_key pairs k ≡ false
absent_value pairs k h = ap is_some h

-- a key is held after a copy if it is held before, or arrives and the source holds it
pub held_cases : {X : Type 0} (arrives : Descriptor → Bool) (source there : List (Descriptor × X)) (k : Descriptor) → (has_key (with_arriving arrives source there) k ≡ true) ↔ ((has_key there k ≡ true) ⊎ ((arrives k ≡ true) × (has_key source k ≡ true)))
held_cases arrives source there k = (
  λ h. elim (cases_Bool (has_key there k)) [
    | inl held ↦ inl held
    | inr absent ↦ elim (cases_Bool (arrives k)) [
      | inl comes ↦ inr (comes, sym (has_key_new arrives source there k absent comes) ∙ h)
      | inr stays ↦ cc (sym (has_key_gone arrives source there k absent stays) ∙ h)
    ]
  ],
  λ h. elim h [
    | inl held ↦ has_key_there arrives source there k held
    | inr comes ↦ elim (cases_Bool (has_key there k)) [
      | inl held ↦ has_key_there arrives source there k held
      | inr absent ↦ has_key_new arrives source there k absent comes.0 ∙ comes.1
    ]
  ],
)

-- ---- fetches

-- an answer of a part is one of the whole, if the key is held in both or in none
pub answers_whole : {X : Type 0} (part whole : State) (k : Descriptor) (answer : Result X FetchFault) → has_key whole.entries k ≡ has_key part.entries k → (part.fails_at k ≡ true → whole.fails_at k ≡ true) → AnswersFetch part k answer → AnswersFetch whole k answer
answers_whole {X} part whole k answer same fails h = record {
  held = held answer h.held;
  not_found = (λ e. same ∙ h.not_found.0 e, λ absent. h.not_found.1 (sym same ∙ absent));
  corrupt = λ e. fails (h.corrupt e);
  device = λ e. fails (h.device e);
}
  where
    held : (r : Result X FetchFault) → OnOk r (has_key part.entries k ≡ true) → OnOk r (has_key whole.entries k ≡ true)
    held (Ok x) there = same ∙ there
    held (Err e) there = there

-- a fetch of a key that is not held
pub not_found : {X : Type 0} (store : State) (k : Descriptor) → has_key store.entries k ≡ false → AnswersFetch {X = X} store k (Err fetch.NotFound)
not_found store k absent = record { held = tt; not_found = (λ _. absent, λ _. refl); corrupt = λ e. cc e; device = λ e. cc e }

-- ---- the keys that list a key

pub edge_cases : (arrives : Descriptor → Bool) (source there : List Node) (from to : Descriptor) → IsEdge (with_arriving arrives source there) from to ↔ (IsEdge there from to ⊎ ((arrives from ≡ true) × (has_key there from ≡ false) × IsEdge source from to))
edge_cases arrives source there from to = (
  λ edge. elim (cases_Bool (has_key there from)) [
    | inl held ↦
        let one = found there from held in
        let same : one.0 ≡ edge.0 = cc (sym (value_there arrives source there from one.0 one.1) ∙ edge.1) in
        inl (one.0, one.1, subst (λ (ks : List Descriptor). Contains ks to) (sym same) edge.2)
    | inr absent ↦ elim (cases_Bool (arrives from)) [
      | inl comes ↦ inr (comes, absent, (edge.0, sym (value_new arrives true source there from absent comes) ∙ edge.1, edge.2))
      | inr stays ↦ cc (sym (value_new arrives false source there from absent stays) ∙ edge.1)
    ]
  ],
  λ h. elim h [
    | inl edge ↦ (edge.0, value_there arrives source there from edge.0 edge.1, edge.2)
    | inr new ↦ (new.2.0, value_new arrives true source there from new.1 new.0 ∙ new.2.1, new.2.2)
  ],
)

-- ---- sets to which keys were added

abbrev pub Adds : List Descriptor → BTreeSet Descriptor → BTreeSet Descriptor → Type 0
Adds keys old new = (k : Descriptor) → (contains key_cmp new k ≡ true) ↔ ((contains key_cmp old k ≡ true) ⊎ Contains keys k)

-- one key more
pub adds_more : (keys : List Descriptor) (i : ℕ) (key copy : Descriptor) (start old new : BTreeSet Descriptor) → i < length keys → key ≡ get_or keys i key → copy ≡ key → Adds (take i keys) start old
    → ((other : Descriptor) → contains key_cmp new other ≡ cond (is_eq (key_cmp copy other)) true (contains key_cmp old other)) → Adds (take (i + 1) keys) start new
adds_more keys i key copy start old new lt at same adds grown =
    subst (λ (ks : List Descriptor). Adds ks start new) (sym (next_element keys i key lt at)) (λ k. (to k, back k))
  where
    before : List Descriptor
    before = take i keys

    to : (k : Descriptor) → contains key_cmp new k ≡ true → (contains key_cmp start k ≡ true) ⊎ Contains (before ++ key ∷ []) k
    to k h = elim ((set_more old new copy grown k).0 h) [
      | inr is ↦ inr (subst (λ (x : Descriptor). Contains (before ++ key ∷ []) x) (sym (is ∙ same)) (Contains-push before key))
      | inl was ↦ elim ((adds k).0 was) [ inl first ↦ inl first | inr there ↦ inr (Contains-append_left before (key ∷ []) k there) ]
    ]

    back : (k : Descriptor) → (contains key_cmp start k ≡ true) ⊎ Contains (before ++ key ∷ []) k → contains key_cmp new k ≡ true
    back k h = (set_more old new copy grown k).1 (elim h [
      | inl first ↦ inl ((adds k).1 (inl first))
      | inr there ↦ elim (Contains-push_cases before key k there) [ inl was ↦ inl ((adds k).1 (inr was)) | inr is ↦ inr (sym is ∙ sym same) ]
    ])

-- the keys of a set to which two lists were added, when it was empty
pub added_twice : (empty one two : BTreeSet Descriptor) (keys more listed : List Descriptor) → empty.keys ≡ [] → Adds keys empty one → Adds more one two → listed ≡ two.keys → (k : Descriptor) → Contains listed k ↔ (Contains keys k ⊎ Contains more k)
added_twice empty one two keys more listed none first second is k =
    let iff = btree_set_contains_iff key_cmp_total key_cmp_exact two k in (
      λ c. elim ((second k).0 (iff.1 (subst (λ (ks : List Descriptor). Contains ks k) is c))) [
        | inr later ↦ inr later
        | inl before ↦ elim ((first k).0 before) [
          | inr there ↦ inl there
          | inl never ↦ absurd (no_element k (subst (λ (ks : List Descriptor). Contains ks k) none ((btree_set_contains_iff key_cmp_total key_cmp_exact empty k).0 never)))
        ]
      ],
      λ h. subst (λ (ks : List Descriptor). Contains ks k) (sym is) (iff.0 ((second k).1 (elim h [ inl there ↦ inl ((first k).1 (inr there)) | inr later ↦ inr later ]))),
    )

in_filter : (p : Descriptor → Bool) (keys : List Descriptor) (k : Descriptor) → Contains (filter p keys) k ↔ ((p k ≡ true) × Contains keys k)
in_filter p keys k = (
  λ c. (let r = among-filter p keys k (among_from_Contains (filter p keys) k c) in (r.0, Contains-from_among keys k r.1)),
  λ h. Contains-from_among (filter p keys) k (among_filter_from p keys k h.0 (among_from_Contains keys k h.1)),
)

-- the keys that list a key after a copy
pub before_after : (keys : BTreeSet Descriptor) (source there : List Node) (held : Descriptor → Bool) (k : Descriptor) (here from_source from_both : List Descriptor) → ((j : Descriptor) → held j ≡ has_key there j) → IsBefore there k here → IsBefore source k from_source
    → ((j : Descriptor) → Contains from_both j ↔ (Contains here j ⊎ Contains (filter (λ (i : Descriptor). contains key_cmp keys i && not (held i)) from_source) j)) → IsStrictlySortedBy key_cmp from_both → IsBefore (with_arriving (contains key_cmp keys) source there) k from_both
before_after keys source there held k here from_source from_both same before_here before_source both order = record { each = λ j. (to j, back j); order = order }
  where
    arrives : Descriptor → Bool
    arrives j = contains key_cmp keys j

    is_new : Descriptor → Bool
    is_new i = contains key_cmp keys i && not (held i)

    new_from : (a b : Bool) → (a && not b) ≡ true → (a ≡ true) × (b ≡ false)
    new_from true false h = (refl, refl)
    new_from true true h = cc h
    new_from false b h = cc h

    to_new : (a b : Bool) → a ≡ true → b ≡ false → (a && not b) ≡ true
    to_new a b is_true is_false = rw (is_true, is_false) refl

    to : (j : Descriptor) → Contains from_both j → IsEdge (with_arriving arrives source there) j k
    to j c =
        (edge_cases arrives source there j k).1
        (elim ((both j).0 c) [
          | inl first ↦ inl ((before_here.each j).0 first)
          | inr later ↦
              let r = (in_filter is_new from_source j).0 later in
              let new = new_from (arrives j) (held j) r.0 in
              inr (new.0, sym (same j) ∙ new.1, (before_source.each j).0 r.1)
        ])

    back : (j : Descriptor) → IsEdge (with_arriving arrives source there) j k → Contains from_both j
    back j edge =
        (both j).1
        (elim ((edge_cases arrives source there j k).0 edge) [
          | inl first ↦ inl ((before_here.each j).1 first)
          | inr new ↦ inr ((in_filter is_new from_source j).1 (to_new (arrives j) (held j) new.0 (same j ∙ new.1), (before_source.each j).1 new.2))
        ])

-- the keys that are held after a copy
pub are_held_after : (keys : BTreeSet Descriptor) (source there : List Node) (holds : Descriptor → Bool) (held arriving listed : List Descriptor) → ((j : Descriptor) → holds j ≡ has_key source j) → AreHeld there held → arriving ≡ keys.keys
    → ((j : Descriptor) → Contains listed j ↔ (Contains held j ⊎ Contains (filter holds arriving) j)) → IsStrictlySortedBy key_cmp listed → AreHeld (with_arriving (contains key_cmp keys) source there) listed
are_held_after keys source there holds held arriving listed same are is both order = record { each = λ j. (to j, back j); order = order }
  where
    arrives : Descriptor → Bool
    arrives j = contains key_cmp keys j

    to : (j : Descriptor) → Contains listed j → has_key (with_arriving arrives source there) j ≡ true
    to j c =
        (held_cases arrives source there j).1
        (elim ((both j).0 c) [
          | inl first ↦ inl ((are.each j).0 first)
          | inr later ↦
              let r = (in_filter holds arriving j).0 later in
              inr ((btree_set_contains_iff key_cmp_total key_cmp_exact keys j).1 (subst (λ (ks : List Descriptor). Contains ks j) is r.1), sym (same j) ∙ r.0)
        ])

    back : (j : Descriptor) → has_key (with_arriving arrives source there) j ≡ true → Contains listed j
    back j h =
        (both j).1
        (elim ((held_cases arrives source there j).0 h) [
          | inl first ↦ inl ((are.each j).1 first)
          | inr new ↦ inr ((in_filter holds arriving j).1 (same j ∙ new.1, subst (λ (ks : List Descriptor). Contains ks j) (sym is) ((btree_set_contains_iff key_cmp_total key_cmp_exact keys j).0 new.0)))
        ])
