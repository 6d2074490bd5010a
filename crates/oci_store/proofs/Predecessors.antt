-- Lists of predecessors, one key at a time.
use Rattle.std.proofs.Common.{◌≡◌, ℕ, ◌+◌, ◌<◌, Bool, true, false, cond, not, ◌&&◌, ◌||◌, inl, inr, List, [], ◌∷◌, ◌++◌, length, take, drop, get_or, Option, Some, None, is_some, refl, sym, ap, ◌∙◌}
use Rattle.std.specs.Prelude.{Contains, ◌↔◌, Result, Ok, Err, OnErr, IsSome}
use Rattle.std.specs.BTreeMap.{get, Updates}
use Rattle.std.specs.BTreeSet.{BTreeSet, contains}
use Rattle.std.specs.Global.{Vec}
use Rattle.std.specs.List.{list_any, filter}
use Rattle.std.specs.List.Sorted.{IsStrictlySortedBy}
use Rattle.std.specs.Option.{option_map_or}
use Rattle.std.specs.Ordering.{is_eq}
use Rattle.std.proofs.lemmas.List.{take_more, take-append-drop}
use Rattle.std.proofs.lemmas.List.Folds.{list_any-append}
use Rattle.std.proofs.lemmas.Map.Views.{Contains-from_any, list_any-from_Contains, btree_set_contains_iff}
use Rattle.std.proofs.lemmas.Bool.{cases_Bool}
use Rattle.oci_manifest.specs.Descriptor.{Descriptor, same_key, key_cmp, is_among}
use Rattle.oci_store.specs.Graph.{Node, IsEdge}
use Rattle.oci_store.specs.Before.{IsBefore}
use Rattle.oci_store.specs.Predecessors.{lists_key, PredecessorLists, is_predecessor, ArePredecessors}
use Rattle.oci_store.specs.Keyed.{value_at, has_key}
use Rattle.oci_store.proofs.KeyOrder.{cond-or, same_key_laws, key_cmp_total, is_eq-key_cmp, key_cmp_exact, tied, absent_parts, apart_too}

-- ---- truth values
and_or-same : (b : Bool) → b ≡ (b || false)
and_or-same true = refl
and_or-same false = refl

and_not-same : (b : Bool) → b ≡ (b && not false)
and_not-same true = refl
and_not-same false = refl

none_and : (a : Bool) → false ≡ (a && false)
none_and true = refl
none_and false = refl

and_true : (b : Bool) → b ≡ (b && true)
and_true true = refl
and_true false = refl

-- ---- a list with one key more, or less
in_more : (ks : List Descriptor) (predecessor other : Descriptor) → is_among (ks ++ predecessor ∷ []) other ≡ (is_among ks other || same_key predecessor other)
in_more ks predecessor other = list_any-append (λ k. same_key k other) ks (predecessor ∷ []) ∙ ap (λ (b : Bool). is_among ks other || b) (sym (and_or-same (same_key predecessor other)))

in_less : (ks : List Descriptor) (predecessor other : Descriptor) → is_among (filter (λ k. not (same_key k predecessor)) ks) other ≡ (is_among ks other && not (same_key predecessor other))
in_less [] predecessor other = refl
in_less (k ∷ ks) predecessor other =
    elim (cases_Bool (same_key k predecessor)) [
      | inl same ↦ rw same (in_less ks predecessor other ∙ gone (same_key k other) (same_key predecessor other) (is_among ks other) (ap (λ (d : Descriptor). same_key d other) (tied k predecessor same)))
      | inr apart ↦
          rw apart (ap (λ (b : Bool). same_key k other || b) (in_less ks predecessor other)
          ∙ stays (same_key k other) (same_key predecessor other) (is_among ks other) (λ here. apart_too k predecessor other apart here))
    ]
  where
    gone : (a h rest : Bool) → a ≡ h → (rest && not h) ≡ ((a || rest) && not h)
    gone true true true e = refl
    gone true true false e = refl
    gone false false rest e = refl
    gone true false rest e = cc e
    gone false true rest e = cc e

    stays : (a h rest : Bool) → (a ≡ true → h ≡ false) → (a || (rest && not h)) ≡ ((a || rest) && not h)
    stays true true rest e = cc (e refl)
    stays true false rest e = refl
    stays false h rest e = refl

abbrev pub has_predecessor : Descriptor → Option (Vec Descriptor) → Bool
has_predecessor predecessor found = option_map_or (λ keys. is_among keys.items predecessor) found false

-- what a map has after a list with one key more was put at a key
pub noted : (old new : PredecessorLists) (predecessor listed : Descriptor) (ks : List Descriptor) (more : Vec Descriptor)
    → Updates key_cmp old new listed (Some more)
    → ((other : Descriptor) → has_predecessor other (get key_cmp old listed) ≡ is_among ks other)
    → more.items ≡ ks ++ predecessor ∷ []
    → (other key : Descriptor) → is_predecessor new other key ≡ (is_predecessor old other key || (same_key predecessor other && same_key key listed))
noted old new predecessor listed ks more updates was grown other key =
    ap (has_predecessor other) (updates.0 key) ∙ ap (λ (b : Bool). has_predecessor other (cond b (Some more) (get key_cmp old key))) (is_eq-key_cmp listed key ∙ same_key_laws.symm listed key)
    ∙ elim (cases_Bool (same_key key listed)) [
      | inl same ↦
          let here : get key_cmp old key ≡ get key_cmp old listed = ap (get key_cmp old) (tied key listed same) in
          rw (same, here) (ap (λ (t : List Descriptor). is_among t other) grown ∙ in_more ks predecessor other ∙ ap (λ (b : Bool). b || same_key predecessor other) (sym (was other))
          ∙ ap (λ (b : Bool). has_predecessor other (get key_cmp old listed) || b) (and_true (same_key predecessor other)))
      | inr apart ↦ rw apart (and_or-same (is_predecessor old other key) ∙ ap (λ (b : Bool). is_predecessor old other key || b) (none_and (same_key predecessor other)))
    ]

-- what it has after a list lost a key
pub forgotten : (old new : PredecessorLists) (predecessor listed : Descriptor) (was less : Vec Descriptor)
    → Updates key_cmp old new listed (Some less) → get key_cmp old listed ≡ Some was → less.items ≡ filter (λ k. not (same_key k predecessor)) was.items
    → (other key : Descriptor) → is_predecessor new other key ≡ (is_predecessor old other key && not (same_key predecessor other && same_key key listed))
forgotten old new predecessor listed was less updates there shrunk other key =
    ap (has_predecessor other) (updates.0 key) ∙ ap (λ (b : Bool). has_predecessor other (cond b (Some less) (get key_cmp old key))) (is_eq-key_cmp listed key ∙ same_key_laws.symm listed key)
    ∙ elim (cases_Bool (same_key key listed)) [
      | inl same ↦
          let here : get key_cmp old key ≡ Some was = ap (get key_cmp old) (tied key listed same) ∙ there in
          rw (same, here) (ap (λ (t : List Descriptor). is_among t other) shrunk ∙ in_less was.items predecessor other ∙ ap (λ (b : Bool). is_among was.items other && not b) (and_true (same_key predecessor other)))
      | inr apart ↦ rw apart (and_not-same (is_predecessor old other key) ∙ ap (λ (b : Bool). is_predecessor old other key && not b) (none_and (same_key predecessor other)))
    ]

-- a list with the same keys changes nothing
pub unchanged : (old new : PredecessorLists) (listed : Descriptor) (was same : Vec Descriptor) → Updates key_cmp old new listed (Some same) → get key_cmp old listed ≡ Some was → same.items ≡ was.items
    → (other key : Descriptor) → is_predecessor new other key ≡ is_predecessor old other key
unchanged old new listed was same updates there keys other key =
    ap (has_predecessor other) (updates.0 key) ∙ ap (λ (b : Bool). has_predecessor other (cond b (Some same) (get key_cmp old key))) (is_eq-key_cmp listed key ∙ same_key_laws.symm listed key)
    ∙ elim (cases_Bool (same_key key listed)) [
      | inl here ↦
          let at : get key_cmp old key ≡ Some was = ap (get key_cmp old) (tied key listed here) ∙ there in
          rw (here, at) (ap (λ (t : List Descriptor). is_among t other) keys)
      | inr apart ↦ rw apart refl
    ]

-- ---- several keys
-- the test may be put the other way round
is_among-turned : (ks : List Descriptor) (k : Descriptor) → is_among ks k ≡ list_any (same_key k) ks
is_among-turned [] k = refl
is_among-turned (d ∷ ks) k = rw (same_key_laws.symm d k, is_among-turned ks k) refl

pub is_among-more : (ks : List Descriptor) (i : ℕ) (k key : Descriptor) → i < length ks → k ≡ get_or ks i k → is_among (take (i + 1) ks) key ≡ (is_among (take i ks) key || same_key key k)
is_among-more ks i k key lt is =
    ap (λ (t : List Descriptor). is_among t key) (take_more ks i k lt) ∙ list_any-append (λ other. same_key other key) (take i ks) (get_or ks i k ∷ [])
    ∙ ap (λ (d : Descriptor). is_among (take i ks) key || (same_key d key || false)) (sym is)
    ∙ ap (λ (b : Bool). is_among (take i ks) key || b) (sym (and_or-same (same_key k key)) ∙ same_key_laws.symm k key)

noted_step : (o h a s : Bool) → ((o || (h && a)) || (h && s)) ≡ (o || (h && (a || s)))
noted_step true true true true = refl
noted_step true true true false = refl
noted_step true true false true = refl
noted_step true true false false = refl
noted_step true false a s = refl
noted_step false true true true = refl
noted_step false true true false = refl
noted_step false true false true = refl
noted_step false true false false = refl
noted_step false false a s = refl

forgotten_step : (o h a s : Bool) → ((o && not (h && a)) && not (h && s)) ≡ (o && not (h && (a || s)))
forgotten_step true true true true = refl
forgotten_step true true true false = refl
forgotten_step true true false true = refl
forgotten_step true true false false = refl
forgotten_step true false a s = refl
forgotten_step false h a s = refl

-- what is held after some keys were noted
abbrev pub IsNotedAt : PredecessorLists → PredecessorLists → Descriptor → List Descriptor → Type 0
IsNotedAt old new predecessor listed = (other key : Descriptor) → is_predecessor new other key ≡ (is_predecessor old other key || (same_key predecessor other && is_among listed key))

-- what is held after some keys were forgotten
abbrev pub IsForgottenAt : PredecessorLists → PredecessorLists → Descriptor → List Descriptor → Type 0
IsForgottenAt old new predecessor listed = (other key : Descriptor) → is_predecessor new other key ≡ (is_predecessor old other key && not (same_key predecessor other && is_among listed key))

pub IsNotedAt-more : (old mid new : PredecessorLists) (predecessor : Descriptor) (listed : List Descriptor) (i : ℕ) (k : Descriptor) → i < length listed → k ≡ get_or listed i k
    → IsNotedAt old mid predecessor (take i listed) → ((other key : Descriptor) → is_predecessor new other key ≡ (is_predecessor mid other key || (same_key predecessor other && same_key key k)))
    → IsNotedAt old new predecessor (take (i + 1) listed)
IsNotedAt-more old mid new predecessor listed i k lt is before step other key =
    step other key ∙ ap (λ (b : Bool). b || (same_key predecessor other && same_key key k)) (before other key)
    ∙ noted_step (is_predecessor old other key) (same_key predecessor other) (is_among (take i listed) key) (same_key key k)
    ∙ ap (λ (b : Bool). is_predecessor old other key || (same_key predecessor other && b)) (sym (is_among-more listed i k key lt is))

pub IsForgottenAt-more : (old mid new : PredecessorLists) (predecessor : Descriptor) (listed : List Descriptor) (i : ℕ) (k : Descriptor) → i < length listed → k ≡ get_or listed i k
    → IsForgottenAt old mid predecessor (take i listed) → ((other key : Descriptor) → is_predecessor new other key ≡ (is_predecessor mid other key && not (same_key predecessor other && same_key key k)))
    → IsForgottenAt old new predecessor (take (i + 1) listed)
IsForgottenAt-more old mid new predecessor listed i k lt is before step other key =
    step other key ∙ ap (λ (b : Bool). b && not (same_key predecessor other && same_key key k)) (before other key)
    ∙ forgotten_step (is_predecessor old other key) (same_key predecessor other) (is_among (take i listed) key) (same_key key k)
    ∙ ap (λ (b : Bool). is_predecessor old other key && not (same_key predecessor other && b)) (sym (is_among-more listed i k key lt is))

is_among-take : (ks : List Descriptor) (i : ℕ) (key : Descriptor) → is_among (take i ks) key ≡ true → is_among ks key ≡ true
is_among-take ks i key h =
    ap (λ (t : List Descriptor). is_among t key) (sym (take-append-drop i ks)) ∙ list_any-append (λ other. same_key other key) (take i ks) (drop i ks) ∙ rw h refl

pub taken_back_at : (o h a b : Bool) → (h ≡ true → o ≡ false) → (a ≡ true → b ≡ true) → ((o || (h && a)) && not (h && b)) ≡ o
taken_back_at true true a b old more = cc (old refl)
taken_back_at true false a b old more = refl
taken_back_at false true true true old more = refl
taken_back_at false true true false old more = cc (more refl)
taken_back_at false true false b old more = refl
taken_back_at false false a b old more = refl

-- some keys noted and then all of them forgotten is as it was, where the predecessor held nothing
-- before
pub taken_back : (old mid new : PredecessorLists) (predecessor : Descriptor) (listed : List Descriptor) (i : ℕ) → ((key : Descriptor) → is_predecessor old predecessor key ≡ false)
    → IsNotedAt old mid predecessor (take i listed) → IsForgottenAt mid new predecessor listed → (other key : Descriptor) → is_predecessor new other key ≡ is_predecessor old other key
taken_back old mid new predecessor listed i fresh before after other key =
    after other key ∙ ap (λ (b : Bool). b && not (same_key predecessor other && is_among listed key)) (before other key)
    ∙ taken_back_at (is_predecessor old other key) (same_key predecessor other) (is_among (take i listed) key) (is_among listed key)
    (λ same. ap (λ (k : Descriptor). is_predecessor old k key) (sym (tied predecessor other same)) ∙ fresh key)
    (is_among-take listed i key)

pub taken_back_whole : (old mid new : PredecessorLists) (predecessor : Descriptor) (listed : List Descriptor) → ((key : Descriptor) → is_predecessor old predecessor key ≡ false)
    → IsNotedAt old mid predecessor listed → IsForgottenAt mid new predecessor listed → (other key : Descriptor) → is_predecessor new other key ≡ is_predecessor old other key
taken_back_whole old mid new predecessor listed fresh before after other key =
    after other key ∙ ap (λ (b : Bool). b && not (same_key predecessor other && is_among listed key)) (before other key)
    ∙ taken_back_at (is_predecessor old other key) (same_key predecessor other) (is_among listed key) (is_among listed key) (λ same. ap (λ (k : Descriptor). is_predecessor old k key) (sym (tied predecessor other same)) ∙ fresh key) (λ more. more)

-- ---- against the graph
-- a new node at the end
pub lists_key-push : (graph : List Node) (k : Descriptor) (ks : List Descriptor) → has_key graph k ≡ false
    → (predecessor listed : Descriptor) → lists_key (graph ++ (k, ks) ∷ []) predecessor listed ≡ (lists_key graph predecessor listed || (same_key k predecessor && is_among ks listed))
lists_key-push [] k ks absent predecessor listed = elim (same_key k predecessor) as (λ b. option_map_or (λ keys. is_among keys listed) (cond b (Some ks) None) false ≡ (b && is_among ks listed)) [ true ↦ refl | false ↦ refl ]
lists_key-push (n ∷ graph) k ks absent predecessor listed =
    let apart = absent_parts n graph k absent in
    elim (cases_Bool (same_key n.0 predecessor)) [
      | inl here ↦
          let other : same_key k predecessor ≡ false = apart_too n.0 k predecessor apart.0 here in
          rw (here, other) (and_or-same (is_among n.1 listed))
      | inr on ↦ rw on (lists_key-push graph k ks apart.1 predecessor listed)
    ]

-- a test for an edge
pub lists_key-edge : (graph : List Node) (from to : Descriptor) → (lists_key graph from to ≡ true) ↔ IsEdge graph from to
lists_key-edge graph from to = (
  found (value_at graph from) refl,
  λ edge. ap (λ (o : Option (List Descriptor)). option_map_or (λ keys. is_among keys to) o false) edge.1
      ∙ (is_among-turned edge.0 to ∙ list_any-from_Contains same_key_laws to edge.0 edge.2),
)
  where
    found : (o : Option (List Descriptor)) → value_at graph from ≡ o → option_map_or (λ keys. is_among keys to) o false ≡ true → IsEdge graph from to
    found None e h = cc h
    found (Some ks) e h = (ks, e, Contains-from_any tied to ks (sym (is_among-turned ks to) ∙ h))

-- the set of the keys so far, with one more
pub in_set-more : (ks : List Descriptor) (set more : BTreeSet Descriptor) (i : ℕ) (k : Descriptor) → i < length ks → k ≡ get_or ks i k
    → ((other : Descriptor) → contains key_cmp set other ≡ is_among (take i ks) other)
    → ((other : Descriptor) → contains key_cmp more other ≡ cond (is_eq (key_cmp k other)) true (contains key_cmp set other))
    → (other : Descriptor) → contains key_cmp more other ≡ is_among (take (i + 1) ks) other
in_set-more ks set more i k lt is so_far grown other =
    grown other ∙ ap (λ (b : Bool). cond b true (contains key_cmp set other)) (is_eq-key_cmp k other ∙ same_key_laws.symm k other)
    ∙ ap (λ (b : Bool). cond (same_key other k) true b) (so_far other) ∙ cond-or (same_key other k) (is_among (take i ks) other) ∙ sym (is_among-more ks i k other lt is)

-- the keys of the set of a key's predecessors are its predecessors
abbrev pub AreTold : PredecessorLists → Descriptor → List Descriptor → Type 0
AreTold lists listed keys = (predecessor : Descriptor) → Contains keys predecessor ↔ (is_predecessor lists predecessor listed ≡ true)

pub AreTold-some : (lists : PredecessorLists) (listed : Descriptor) (kept : Vec Descriptor) (set : BTreeSet Descriptor) (keys : List Descriptor) → get key_cmp lists listed ≡ Some kept
    → ((k : Descriptor) → contains key_cmp set k ≡ is_among kept.items k) → keys ≡ set.keys → AreTold lists listed keys
AreTold-some lists listed kept set keys there each same predecessor =
    let iff = btree_set_contains_iff key_cmp_total key_cmp_exact set predecessor in
    rw (there, same) (λ h. sym (each predecessor) ∙ iff.1 h, λ h. iff.0 (each predecessor ∙ h))

-- those that the map tells are those that the graph has
pub IsBefore-from_told : (graph : List Node) (lists : PredecessorLists) (k : Descriptor) (keys : List Descriptor) → ArePredecessors graph lists → AreTold lists k keys → IsStrictlySortedBy key_cmp keys → IsBefore graph k keys
IsBefore-from_told graph lists k keys predecessors told order = record {
  each = λ other.
      let edge = lists_key-edge graph other k in
      (λ h. edge.0 (sym (predecessors other k) ∙ (told other).0 h), λ h. (told other).1 (predecessors other k ∙ edge.1 h));
  order = order;
}

-- a map that told the predecessors of a graph tells those of the graph with one node more
pub ArePredecessors-push : (graph : List Node) (old new : PredecessorLists) (k : Descriptor) (ks : List Descriptor) → ArePredecessors graph old → has_key graph k ≡ false → IsNotedAt old new k ks → ArePredecessors (graph ++ (k, ks) ∷ []) new
ArePredecessors-push graph old new k ks predecessors absent noted_all predecessor listed =
    noted_all predecessor listed ∙ ap (λ (b : Bool). b || (same_key k predecessor && is_among ks listed)) (predecessors predecessor listed) ∙ sym (lists_key-push graph k ks absent predecessor listed)

-- a key that is not there holds nothing
pub lists_key-absent : (graph : List Node) (k listed : Descriptor) → has_key graph k ≡ false → lists_key graph k listed ≡ false
lists_key-absent graph k listed absent = none_listed (value_at graph k) absent
  where
    none_listed : (o : Option (List Descriptor)) → is_some o ≡ false → option_map_or (λ keys. is_among keys listed) o false ≡ false
    none_listed None h = refl
    none_listed (Some ks) h = cc h

pub sorted_nil : IsStrictlySortedBy key_cmp []
unfolding IsStrictlySortedBy
sorted_nil = tt

pub on_err : {X E : Type 0} (r : Result X E) (P : Type 0) → P → OnErr r P
on_err (Ok x) P p = tt
on_err (Err e) P p = p

pub is_there : {X : Type 0} (o : Option X) (x : X) → o ≡ Some x → IsSome o
is_there None x h = cc h
is_there (Some y) x h = refl

-- a key that is not there is not told as a predecessor
pub fresh_predecessor : (graph : List Node) (lists : PredecessorLists) (k : Descriptor) → ArePredecessors graph lists → has_key graph k ≡ false → (key : Descriptor) → is_predecessor lists k key ≡ false
fresh_predecessor graph lists k predecessors absent key = predecessors k key ∙ lists_key-absent graph k key absent
