-- The next key of a visiting list.
use Rattle.std.proofs.Common.{◌≡◌, ℕ, zero, suc, Bool, true, false, cond, not, ◌&&◌, ◌||◌, inl, inr, [], ◌∷◌, ◌++◌, take, Option, Some, refl, sym, ap, subst, ◌∙◌, append_assoc, append-nil}
use Rattle.std.specs.Prelude.{find}
use Rattle.std.specs.List.{filter, flat_map, slice_get}
use Rattle.std.proofs.lemmas.List.Concat.{flat_map-append}
use Rattle.std.proofs.lemmas.Bool.{cases_Bool}
use Rattle.oci_manifest.specs.Descriptor.{Descriptor, same_key, is_among}
use Rattle.oci_manifest.specs.Manifest.{first_places}
use Rattle.oci_manifest.proofs.Keys.{Decides-same_key}
use Rattle.oci_store.specs.Visiting.{candidates, next_visit}
use Rattle.oci_store.proofs.Membership.{Keys, find_agree}

-- ---- the next key to visit

find-filter : (p q : Descriptor → Bool) (ks : Keys) → find (λ k. p k && q k) ks ≡ find q (filter p ks)
find-filter p q [] = refl
find-filter p q (k ∷ ks) =
    elim (p k) as (λ b. cond (b && q k) (Some k) (find (λ j. p j && q j) ks) ≡ find q (cond b (k ∷ filter p ks) (filter p ks))) [
      | true ↦ ap (λ (o : Option Descriptor). cond (q k) (Some k) o) (find-filter p q ks)
      | false ↦ find-filter p q ks
    ]

filter-filter : (p q : Descriptor → Bool) (ks : Keys) → filter p (filter q ks) ≡ filter (λ k. p k && q k) ks
filter-filter p q [] = refl
filter-filter p q (k ∷ ks) =
    elim (q k) as (λ b. filter p (cond b (k ∷ filter q ks) (filter q ks)) ≡ cond (p k && b) (k ∷ filter (λ j. p j && q j) ks) (filter (λ j. p j && q j) ks)) [
      | true ↦ ap (λ (t : Keys). cond (p k) (k ∷ t) t) (filter-filter p q ks) ∙ elim (p k) as (λ b. cond b (k ∷ filter (λ j. p j && q j) ks) (filter (λ j. p j && q j) ks) ≡ cond (b && true) (k ∷ filter (λ j. p j && q j) ks) (filter (λ j. p j && q j) ks)) [ true ↦ refl | false ↦ refl ]
      | false ↦ filter-filter p q ks ∙ elim (p k) as (λ b. filter (λ j. p j && q j) ks ≡ cond (b && false) (k ∷ filter (λ j. p j && q j) ks) (filter (λ j. p j && q j) ks)) [ true ↦ refl | false ↦ refl ]
    ]

filter_same : (p q : Descriptor → Bool) → ((k : Descriptor) → p k ≡ q k) → (ks : Keys) → filter p ks ≡ filter q ks
filter_same p q same [] = refl
filter_same p q same (k ∷ ks) = rw (same k, filter_same p q same ks) refl

regrouped : (a b c : Bool) → (a && not (b || c)) ≡ ((a && not b) && not c)
regrouped true true c = refl
regrouped true false c = refl
regrouped false b c = refl

dropped : (p : Descriptor → Bool) (x : Descriptor) → p x ≡ false → (k : Descriptor) → (p k && not (same_key x k)) ≡ p k
dropped p x drops k =
    elim (cases_Bool (same_key x k)) [
      | inl same ↦
          let e : p k ≡ false = subst (λ (y : Descriptor). p y ≡ false) ((Decides-same_key x k).0 same) drops in
          rw e refl
      | inr other ↦ rw other (elim (p k) as (λ b. (b && true) ≡ b) [ true ↦ refl | false ↦ refl ])
    ]

-- the keys that pass, but for one
abbrev but : (Descriptor → Bool) → Descriptor → Descriptor → Bool
but p x k = p k && not (same_key x k)

next_after : (p : Descriptor → Bool) (x : Descriptor) (ks : Keys)
    → ((i : ℕ) → find (λ k. but p x k && not (is_among (take i (filter (but p x) (first_places ks))) k)) ks ≡ slice_get (filter (but p x) (first_places ks)) i)
    → (i : ℕ) → cond (not (is_among (take i (x ∷ filter (but p x) (first_places ks))) x)) (Some x) (find (λ k. p k && not (is_among (take i (x ∷ filter (but p x) (first_places ks))) k)) ks) ≡ slice_get (x ∷ filter (but p x) (first_places ks)) i
next_after p x ks ih zero = refl
next_after p x ks ih (suc i) =
    let itself : same_key x x ≡ true = (Decides-same_key x x).1 refl in
    let kept : Keys = filter (but p x) (first_places ks) in
    rw itself (find_agree (λ k. p k && not (same_key x k || is_among (take i kept) k)) (λ k. but p x k && not (is_among (take i kept) k)) (λ k. regrouped (p k) (same_key x k) (is_among (take i kept) k)) ks ∙ ih i)

-- The first key of a list that passes and is none of the first so many passing keys, each taken
-- once, is the next of these.
next_place : (p : Descriptor → Bool) (ks : Keys) (i : ℕ) → find (λ k. p k && not (is_among (take i (filter p (first_places ks))) k)) ks ≡ slice_get (filter p (first_places ks)) i
next_place p [] i = refl
next_place p (x ∷ ks) i =
    let others = filter-filter p (λ o. not (same_key x o)) (first_places ks) in
    elim (cases_Bool (p x)) [
      | inr drops ↦
          let same = others ∙ filter_same (but p x) p (dropped p x drops) (first_places ks) in
          let all : filter p (first_places (x ∷ ks)) ≡ filter p (first_places ks) = rw drops same in
          subst (λ (t : Keys). find (λ k. p k && not (is_among (take i t) k)) (x ∷ ks) ≡ slice_get t i) (sym all) (rw drops (next_place p ks i))
      | inl keeps ↦
          let all : filter p (first_places (x ∷ ks)) ≡ x ∷ filter (but p x) (first_places ks) = rw keeps (ap (λ (t : Keys). x ∷ t) others) in
          subst (λ (t : Keys). find (λ k. p k && not (is_among (take i t) k)) (x ∷ ks) ≡ slice_get t i) (sym all) (rw keeps (next_after p x ks (next_place (but p x) ks) i))
    ]

pub first_places-all : (ks : Keys) → filter (λ _. true) ks ≡ ks
first_places-all [] = refl
first_places-all (k ∷ ks) = ap (λ (t : Keys). k ∷ t) (first_places-all ks)

-- Where the keys so far are the first places of the candidates that pass, what follows the first i
-- of them is the next to visit.
pub next_visit-at : (lists : Descriptor → Keys) (passes : Descriptor → Bool) (starts keys : Keys) (i : ℕ) → keys ≡ first_places (filter passes (candidates lists starts (take i keys)))
    → next_visit lists passes starts (take i keys) ≡ slice_get keys i
next_visit-at lists passes starts keys i found =
    let offered : Keys = filter passes (candidates lists starts (take i keys)) in
    let places : filter (λ _. true) (first_places offered) ≡ keys = first_places-all (first_places offered) ∙ sym found in
    find-filter passes (λ j. not (is_among (take i keys) j)) (candidates lists starts (take i keys))
    ∙ subst (λ (t : Keys). find (λ j. not (is_among (take i t) j)) offered ≡ slice_get t i) places (next_place (λ _. true) offered i)

-- one more item has its successors as further candidates
pub candidates-push : (lists : Descriptor → Keys) (starts items : Keys) (k : Descriptor) → candidates lists starts (items ++ k ∷ []) ≡ candidates lists starts items ++ lists k
candidates-push lists starts items k =
    ap (λ (t : Keys). starts ++ t) (flat_map-append lists items (k ∷ []) ∙ ap (λ (t : Keys). flat_map lists items ++ t) (append-nil (lists k)))
    ∙ sym (append_assoc starts (flat_map lists items) (lists k))
