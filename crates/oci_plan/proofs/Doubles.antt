-- Lists without doubles.
use Rattle.std.proofs.Common.{◌≡◌, ◌≢◌, ℕ, inl, inr, Bool, true, false, cond, not, eqb, List, [], ◌∷◌, ◌++◌, refl, sym, ap, ◌∙◌, arith, append-nil}
use Rattle.std.specs.Prelude.{All, filter}
use Rattle.std.proofs.lemmas.Bool.{eqb-true}
use Rattle.std.proofs.lemmas.Bool.Decides.{eqb_tells, Decides-eqb}
use Rattle.std.proofs.lemmas.List.Elements.{filter-append, filter_passes, All-cons, All-tail, All-head, All-filter, All-weaker}
use Rattle.std.proofs.lemmas.List.Kept.{AllPairs-cons, AllPairs-filter}
use Rattle.std.proofs.lemmas.Map.Views.{any-filter_same}
use Rattle.oci_plan.specs.Graph.{without_doubles, IsDistinct}
use Rattle.oci_plan.specs.Doubles.{has, with_number}

abbrev others : ℕ → List ℕ → List ℕ
others m numbers = filter (λ n. not (eqb m n)) numbers

-- a number itself is not among the others
others-with_same : (m n : ℕ) (ns : List ℕ) → eqb m n ≡ true → others m (with_number ns n) ≡ others m ns
others-with_same m n ns same =
    elim (has n ns) as (λ b. others m (cond b ns (ns ++ n ∷ [])) ≡ others m ns) [
      | true ↦ refl
      | false ↦ filter-append (λ k. not (eqb m k)) ns (n ∷ []) ∙ rw same (append-nil (others m ns))
    ]

-- the others than m have n where all have it
has-others : (m n : ℕ) (ns : List ℕ) → eqb m n ≡ false → has n (others m ns) ≡ has n ns
has-others m n ns other = any-filter_same (λ k. eqb n k) (λ k. not (eqb m k)) true (λ k e. ap (λ (x : ℕ). not (eqb m x)) (sym (eqb-true n k e)) ∙ ap not other) ns

others-with_other : (m n : ℕ) (ns : List ℕ) → eqb m n ≡ false → others m (with_number ns n) ≡ with_number (others m ns) n
others-with_other m n ns other =
    elim (has n ns) as (λ b. others m (cond b ns (ns ++ n ∷ [])) ≡ cond b (others m ns) (others m ns ++ n ∷ [])) [
      | true ↦ refl
      | false ↦ filter-append (λ k. not (eqb m k)) ns (n ∷ []) ∙ rw other refl
    ] ∙ ap (λ (b : Bool). cond b (others m ns) (others m ns ++ n ∷ [])) (sym (has-others m n ns other))

flipped : (m n : ℕ) (b : Bool) → eqb m n ≡ b → eqb n m ≡ b
flipped m n b h = elim (eqb_tells n m) [
  | inl same ↦ same.0 ∙ sym ((Decides-eqb m n).1 (sym same.1)) ∙ h
  | inr other ↦ other.0 ∙ (elim (eqb_tells m n) [ inl both ↦ absurd (other.1 (sym both.1)) | inr apart ↦ sym apart.0 ]) ∙ h
]

-- one more number goes to the end, unless it is there
pub without_doubles-push : (ns : List ℕ) (n : ℕ) → without_doubles (ns ++ n ∷ []) ≡ with_number (without_doubles ns) n
without_doubles-push [] n = refl
without_doubles-push (m ∷ ns) n =
    elim (eqb_tells m n) [
      | inl same ↦
          let back : eqb n m ≡ true = flipped m n true same.0 in
          ap (λ (t : List ℕ). m ∷ others m t) (without_doubles-push ns n)
          ∙ ap (λ (t : List ℕ). m ∷ t) (others-with_same m n (without_doubles ns) same.0) ∙ rw back refl
      | inr other ↦
          let back : eqb n m ≡ false = flipped m n false other.0 in
          ap (λ (t : List ℕ). m ∷ others m t) (without_doubles-push ns n)
          ∙ ap (λ (t : List ℕ). m ∷ t) (others-with_other m n (without_doubles ns) other.0)
          ∙ rw back (elim (has n (others m (without_doubles ns))) as (λ b. m ∷ cond b (others m (without_doubles ns)) (others m (without_doubles ns) ++ n ∷ []) ≡ cond b (m ∷ others m (without_doubles ns)) (m ∷ (others m (without_doubles ns) ++ n ∷ []))) [ true ↦ refl | false ↦ refl ])
    ]

-- what holds of each number of a list holds of each that is left
pub All-without_doubles : (P : ℕ → Type 0) (ns : List ℕ) → All P ns → All P (without_doubles ns)
All-without_doubles P [] all = all
All-without_doubles P (n ∷ ns) all = All-cons P n (others n (without_doubles ns)) (All-head P n ns all) (All-filter (λ m. not (eqb n m)) P (without_doubles ns) (All-without_doubles P ns (All-tail P n ns all)))

-- no number is left twice
pub IsDistinct-without_doubles : (ns : List ℕ) → IsDistinct (without_doubles ns)
IsDistinct-without_doubles [] = λ i j d lt below. absurd (omega arith)
IsDistinct-without_doubles (n ∷ ns) =
    AllPairs-cons (λ x y. x ≢ y) n (others n (without_doubles ns))
    (All-weaker (λ m. not (eqb n m) ≡ true) (λ m. n ≢ m) (λ m passes e. (let same : eqb n m ≡ true = (Decides-eqb n m).1 e in let no : not true ≡ true = ap not (sym same) ∙ passes in cc)) (others n (without_doubles ns)) (filter_passes (λ m. not (eqb n m)) (without_doubles ns)))
    (AllPairs-filter (λ x y. x ≢ y) (λ m. not (eqb n m)) (without_doubles ns) (IsDistinct-without_doubles ns))
