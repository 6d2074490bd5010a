-- What is left of a graph when only the kept keys stay.
use Rattle.std.proofs.Common.{◌≡◌, ℕ, Bool, true, false, cond, ◌⊎◌, inl, inr, List, [], ◌∷◌, get_or, length, nat_eq, filter, Option, Some, None, is_some, refl, sym, ap, subst, ◌∙◌}
use Rattle.std.specs.Prelude.{Contains}
use Rattle.std.specs.BTreeSet.{BTreeSet, contains}
use Rattle.std.specs.List.{All}
use Rattle.std.specs.Map.{lookup}
use Rattle.std.specs.Str.{bytes_eq}
use Rattle.std.proofs.lemmas.Bool.{cases_Bool}
use Rattle.std.proofs.lemmas.List.Elements.{All-head, All-tail, All-contains_itself, All-filter, All-weaker, Contains-get_or, filter_passes}
use Rattle.std.proofs.lemmas.Map.Views.{lookup-from_Contains}
use Rattle.std.proofs.lemmas.Slice.Eq.{bytes_eq-Decides}
use Rattle.oci_manifest.specs.Descriptor.{Descriptor, same_key, key_cmp}
use Rattle.oci_manifest.proofs.Keys.{Decides-same_key}
use Rattle.oci_store.specs.Closed.{IsClosed}
use Rattle.oci_store.specs.Content.{Entry}
use Rattle.oci_store.specs.Graph.{Node, IsEdge}
use Rattle.oci_store.specs.Keyed.{value_at, has_key, HasAll, HasDistinctKeys}
use Rattle.oci_store.proofs.KeyOrder.{same_key_laws}
use Rattle.oci_layout_store.specs.Blobs.{blob_at, stored}
use Rattle.oci_dir.specs.Device.{File}
use Rattle.oci_prune.specs.Plan.{IsSafe, AreRemoved, HasDigestIn}
use Rattle.oci_prune.specs.Pruned.{kept_of, KeepsReached}
use Rattle.oci_prune.proofs.Elements.{no_element, Contains-cons}

abbrev Set : Type 0
Set = BTreeSet Descriptor

-- ---- a kept key

pub kept_value : (set : Set) (graph : List Node) (k : Descriptor) → contains key_cmp set k ≡ true → value_at (kept_of set graph) k ≡ value_at graph k
kept_value set [] k h = refl
kept_value set (n ∷ graph) k h =
    let rest = kept_value set graph k h in
    elim (cases_Bool (same_key n.0 k)) [
      | inl same ↦
          let is : n.0 ≡ k = (Decides-same_key n.0 k).0 same in
          let stays : contains key_cmp set n.0 ≡ true = ap (contains key_cmp set) is ∙ h in
          rw stays (rw same refl)
      | inr apart ↦
          elim (contains key_cmp set n.0) as (λ b. value_at (cond b (n ∷ kept_of set graph) (kept_of set graph)) k ≡ cond (same_key n.0 k) (Some n.1) (value_at graph k)) [
            | true ↦ rw apart rest
            | false ↦ rw apart rest
          ]
    ]

pub none_left : (set : Set) (graph : List Node) (k : Descriptor) → value_at graph k ≡ None → value_at (kept_of set graph) k ≡ None
none_left set [] k h = refl
none_left set (n ∷ graph) k h =
    elim (cases_Bool (same_key n.0 k)) [
      | inl same ↦ cc (rw same at h)
      | inr apart ↦
          let rest = none_left set graph k (rw apart at h) in
          elim (contains key_cmp set n.0) as (λ b. value_at (cond b (n ∷ kept_of set graph) (kept_of set graph)) k ≡ None) [
            | true ↦ rw apart rest
            | false ↦ rest
          ]
    ]

-- a key that is left is kept
pub kept_from_left : (set : Set) (graph : List Node) (k : Descriptor) → has_key (kept_of set graph) k ≡ true → contains key_cmp set k ≡ true
kept_from_left set [] k h = cc h
kept_from_left set (n ∷ graph) k h =
    elim (cases_Bool (contains key_cmp set n.0)) [
      | inr gone ↦ kept_from_left set graph k (subst (λ (b : Bool). has_key (cond b (n ∷ kept_of set graph) (kept_of set graph)) k ≡ true) gone h)
      | inl stays ↦
          elim (cases_Bool (same_key n.0 k)) [
            | inl same ↦ subst (λ (x : Descriptor). contains key_cmp set x ≡ true) ((Decides-same_key n.0 k).0 same) stays
            | inr apart ↦ kept_from_left set graph k (rw apart at (subst (λ (b : Bool). has_key (cond b (n ∷ kept_of set graph) (kept_of set graph)) k ≡ true) stays h))
          ]
    ]

none_from_absent : {X : Type 0} (o : Option X) → is_some o ≡ false → o ≡ None
none_from_absent None h = refl
none_from_absent (Some x) h = cc h

-- ---- what was reached, and closed graphs

pub reached_left : (graph : List Node) (roots : List Descriptor) (set : Set) → IsSafe graph roots set → KeepsReached graph (kept_of set graph) roots
reached_left graph roots set safe k reached =
    elim (cases_Bool (has_key graph k)) [
      | inl held ↦ kept_value set graph k (safe.reached k reached held)
      | inr absent ↦
          let none = none_from_absent (value_at graph k) absent in
          none_left set graph k none ∙ sym none
    ]

pub reached_either : (graph now : List Node) (roots : List Descriptor) (set : Set) → IsSafe graph roots set → (now ≡ graph) ⊎ (now ≡ kept_of set graph) → KeepsReached graph now roots
reached_either graph now roots set safe (inl same) = λ k reached. ap (λ (g : List Node). value_at g k) same
reached_either graph now roots set safe (inr left) = λ k reached. ap (λ (g : List Node). value_at g k) left ∙ reached_left graph roots set safe k reached

turned : (graph : List Node) (k : Descriptor) → value_at graph k ≡ lookup (same_key k) graph
turned [] k = refl
turned (n ∷ graph) k = rw (same_key_laws.symm n.0 k, turned graph k) refl

-- where no key occurs twice, a node is what is found under its key
own_value : (graph : List Node) (n : Node) → HasDistinctKeys graph → Contains graph n → value_at graph n.0 ≡ Some n.1
own_value graph n distinct there = turned graph n.0 ∙ lookup-from_Contains same_key_laws n.0 n.1 graph distinct there

abbrev LeavesListed : Set → List Node → Node → Type 0
LeavesListed set graph n = contains key_cmp set n.0 ≡ true → HasAll (kept_of set graph) n.1

lists_left : (graph : List Node) (roots : List Descriptor) (set : Set) → HasDistinctKeys graph → IsSafe graph roots set → IsClosed graph → All (LeavesListed set graph) graph
lists_left graph roots set distinct safe closed place d lt kept at e within =
    let n = get_or graph place d in
    let to = get_or n.1 at e in
    let held : has_key graph to ≡ true = closed place d lt at e within in
    let edge : IsEdge graph n.0 to = (n.1, own_value graph n distinct (Contains-get_or graph place d lt), Contains-get_or n.1 at e within) in
    ap is_some (kept_value set graph to (safe.closed n.0 to kept edge held)) ∙ held

pub closed_left : (graph : List Node) (roots : List Descriptor) (set : Set) → HasDistinctKeys graph → IsSafe graph roots set → IsClosed graph → IsClosed (kept_of set graph)
closed_left graph roots set distinct safe closed =
    let passes = filter_passes (λ (n : Node). contains key_cmp set n.0) graph in
    let lists = All-filter (λ (n : Node). contains key_cmp set n.0) (LeavesListed set graph) graph (lists_left graph roots set distinct safe closed) in
    λ place d lt. lists place d lt (passes place d lt)

pub closed_either : (graph now : List Node) (roots : List Descriptor) (set : Set) → HasDistinctKeys graph → IsSafe graph roots set → (now ≡ graph) ⊎ (now ≡ kept_of set graph) → IsClosed graph → IsClosed now
closed_either graph now roots set distinct safe (inl same) closed = subst (λ (g : List Node). IsClosed g) (sym same) closed
closed_either graph now roots set distinct safe (inr left) closed = subst (λ (g : List Node). IsClosed g) (sym left) (closed_left graph roots set distinct safe closed)

-- ---- where no key goes

-- a list is not empty that was found to have elements
pub not_empty : {X : Type 0} (xs : List X) (count : ℕ) (is_empty : Bool) → count ≡ length xs → is_empty ≡ nat_eq count 0 → is_empty ≡ false → xs ≡ [] → ⊥
not_empty xs count is_empty counted is never none = cc (sym never ∙ is ∙ ap (λ (n : ℕ). nat_eq n 0) (counted ∙ ap length none))

pub held_from_node : (graph : List Node) (n : Node) → Contains graph n → has_key graph n.0 ≡ true
held_from_node [] n h = absurd (no_element n h)
held_from_node (m ∷ graph) n h =
    elim (cases_Bool (same_key m.0 n.0)) [
      | inl same ↦ rw same refl
      | inr apart ↦
          elim (Contains-cons m graph n h) [
            | inl is ↦ cc (sym apart ∙ (Decides-same_key m.0 n.0).1 (ap (λ (x : Node). x.0) is))
            | inr later ↦ rw apart (held_from_node graph n later)
          ]
    ]

filter_whole : (p : Node → Bool) (graph : List Node) → All (λ (n : Node). p n ≡ true) graph → filter p graph ≡ graph
filter_whole p [] h = refl
filter_whole p (n ∷ graph) h =
    let first : p n ≡ true = All-head (λ (m : Node). p m ≡ true) n graph h in
    rw first (ap (λ (g : List Node). n ∷ g) (filter_whole p graph (All-tail (λ (m : Node). p m ≡ true) n graph h)))

pub whole_left : (graph : List Node) (set : Set) (removed : List Descriptor) → AreRemoved graph set removed → removed ≡ [] → graph ≡ kept_of set graph
whole_left graph set removed are none =
    sym (filter_whole (λ (n : Node). contains key_cmp set n.0) graph (All-weaker (Contains graph) (λ (n : Node). contains key_cmp set n.0 ≡ true) (λ n there. stays n (held_from_node graph n there)) graph (All-contains_itself graph)))
  where
    stays : (n : Node) → has_key graph n.0 ≡ true → contains key_cmp set n.0 ≡ true
    stays n held =
        elim (cases_Bool (contains key_cmp set n.0)) [
          | inl kept ↦ kept
          | inr gone ↦ absurd (no_element n.0 (subst (λ (ks : List Descriptor). Contains ks n.0) none ((are.each n.0).1 (held, gone))))
        ]

-- ---- contents

-- the contents of the kept keys are the kept contents
pub stored_left : (file : File) (set : Set) (graph : List Node) → stored file (kept_of set graph) ≡ filter (λ (e : Entry). contains key_cmp set e.0) (stored file graph)
stored_left file set [] = refl
stored_left file set (n ∷ graph) =
    elim (contains key_cmp set n.0) as (λ b. stored file (cond b (n ∷ kept_of set graph) (kept_of set graph)) ≡ cond b ((n.0, blob_at file n.0.digest) ∷ filter (λ (e : Entry). contains key_cmp set e.0) (stored file graph)) (filter (λ (e : Entry). contains key_cmp set e.0) (stored file graph))) [
      | true ↦ ap (λ (es : List Entry). (n.0, blob_at file n.0.digest) ∷ es) (stored_left file set graph)
      | false ↦ stored_left file set graph
    ]

-- ---- digests

-- a key of the graph has the digest, or none has
pub decide_digest : (graph : List Node) (digest : List ℕ) → HasDigestIn (λ (k : Descriptor). has_key graph k ≡ true) digest ⊎ (HasDigestIn (λ (k : Descriptor). has_key graph k ≡ true) digest → ⊥)
decide_digest [] digest = inr (λ p. cc p.1)
decide_digest (n ∷ graph) digest =
    elim (cases_Bool (bytes_eq n.0.digest digest)) [
      | inl same ↦ inl (n.0, first, (bytes_eq-Decides n.0.digest digest).0 same)
      | inr apart ↦
          elim (decide_digest graph digest) [
            | inl p ↦ inl (p.0, later p.0 p.1, p.2)
            | inr never ↦ inr (λ p. elim (cases_Bool (same_key n.0 p.0)) [
              | inl is ↦ cc (sym apart ∙ (bytes_eq-Decides n.0.digest digest).1 (ap (λ (k : Descriptor). k.digest) ((Decides-same_key n.0 p.0).0 is) ∙ p.2))
              | inr other ↦ never (p.0, rw other at p.1, p.2)
            ])
          ]
    ]
  where
    first : has_key (n ∷ graph) n.0 ≡ true
    first = let itself = (Decides-same_key n.0 n.0).1 refl in rw itself refl

    later : (k : Descriptor) → has_key graph k ≡ true → has_key (n ∷ graph) k ≡ true
    later k h = elim (cases_Bool (same_key n.0 k)) [ inl is ↦ rw is refl | inr other ↦ rw other h ]
