-- Whether each listed number is a number of the graph.
use Rattle.std.proofs.Common.{◌≡◌, ℕ, ◌+◌, ◌<◌, ◌⊎◌, inl, inr, List, [], ◌∷◌, length, get_or, Option, Some, None, refl, sym, ap, ◌∙◌, arith, subst, below_more}
use Rattle.std.specs.Prelude.{All, find, nat_le}
use Rattle.std.specs.Global.{Vec}
use Rattle.std.proofs.lemmas.Bool.{cases_lt}
use Rattle.std.proofs.lemmas.Bool.Decides.{leb_tells}
use Rattle.std.proofs.lemmas.List.{get_or-map}
use Rattle.std.proofs.lemmas.List.Elements.{All-nil, All-cons, All-head, All-tail}
use Rattle.oci_plan.specs.Graph.{lists_of, successors_of, AreNumbers, IsGraph, IsFirstBad}
use Rattle.oci_plan.proofs.Ends.{length-lists_of}

-- the list of a number is the vector's at its place
pub successors_at : (vectors : List (Vec ℕ)) (i : ℕ) (v : Vec ℕ) → i < length vectors → v ≡ get_or vectors i v → successors_of (lists_of vectors) i ≡ v.items
successors_at vectors i v lt is = get_or-map (λ (w : Vec ℕ). w.items) vectors i v [] lt ∙ ap (λ (w : Vec ℕ). w.items) (sym is)

-- a search through a vector's numbers is one through its list
pub found_here : (vectors : List (Vec ℕ)) (i : ℕ) (v : Vec ℕ) (items : List ℕ) (r : Option ℕ) → i < length vectors → v ≡ get_or vectors i v → items ≡ v.items → r ≡ find (λ m. nat_le (length vectors) m) items → find (λ m. nat_le (length (lists_of vectors)) m) (successors_of (lists_of vectors) i) ≡ r
found_here vectors i v items r lt is read found =
    let count : length (lists_of vectors) ≡ length vectors = length-lists_of vectors in
    let list : successors_of (lists_of vectors) i ≡ items = successors_at vectors i v lt is ∙ sym read in
    ap (λ (k : ℕ). find (λ m. nat_le k m) (successors_of (lists_of vectors) i)) count ∙ ap (find (λ m. nat_le (length vectors) m)) list ∙ sym found

-- a list in which no number is found that is too large
none_found : (count : ℕ) (xs : List ℕ) → find (λ m. nat_le count m) xs ≡ None → All (λ m. m < count) xs
none_found count [] none = All-nil (λ m. m < count)
none_found count (x ∷ xs) none = elim (leb_tells count x) [
  | inl large ↦ (let found : Some x ≡ None = rw large.0 at none in cc)
  | inr fits ↦ All-cons (λ m. m < count) x xs fits.1 (none_found count xs (rw fits.0 at none))
]

-- and back
pub none_in_good : (count : ℕ) (xs : List ℕ) → All (λ m. m < count) xs → find (λ m. nat_le count m) xs ≡ None
none_in_good count [] good = refl
none_in_good count (x ∷ xs) good = elim (leb_tells count x) [
  | inl large ↦ absurd (omega (arith, large.1, All-head (λ m. m < count) x xs good))
  | inr fits ↦ rw fits.0 (none_in_good count xs (All-tail (λ m. m < count) x xs good))
]

-- so one list more has good numbers alone
pub good_more : (lists : List (List ℕ)) (i : ℕ) → find (λ m. nat_le (length lists) m) (successors_of lists i) ≡ None → ((j : ℕ) → j < i → AreNumbers lists (successors_of lists j)) → (j : ℕ) → j < i + 1 → AreNumbers lists (successors_of lists j)
good_more lists i none earlier = below_more (λ j. AreNumbers lists (successors_of lists j)) i earlier (none_found (length lists) (successors_of lists i) none)

-- the numbers of a vector of a graph
pub numbers_here : (vectors : List (Vec ℕ)) (i : ℕ) (v : Vec ℕ) (items : List ℕ) (count : ℕ) → IsGraph (lists_of vectors) → i < length vectors → v ≡ get_or vectors i v → items ≡ v.items → count ≡ length vectors → All (λ n. n < count) items
numbers_here vectors i v items count graph lt is read total =
    let list : successors_of (lists_of vectors) i ≡ items = successors_at vectors i v lt is ∙ sym read in
    let all : length (lists_of vectors) ≡ count = length-lists_of vectors ∙ sym total in
    subst (λ (k : ℕ). All (λ n. n < k) items) all (subst (All (λ n. n < length (lists_of vectors))) list (graph i))

-- a graph has no bad number
pub no_bad_number : (lists : List (List ℕ)) (i n : ℕ) → IsGraph lists → IsFirstBad lists i n → ⊥
no_bad_number lists i n graph bad = (let both : Some n ≡ None = sym bad.first ∙ none_in_good (length lists) (successors_of lists i) (graph i) in cc)

-- there is at most one first bad number
pub first_bad_same : (lists : List (List ℕ)) (i n j m : ℕ) → IsFirstBad lists i n → IsFirstBad lists j m → (i ≡ j) × (n ≡ m)
first_bad_same lists i n j m a b =
    let before : (k l x : ℕ) → k < l → find (λ y. nat_le (length lists) y) (successors_of lists k) ≡ Some x → IsFirstBad lists l m ⊎ IsFirstBad lists l n → ⊥ =
    λ k l x lt found at. elim at [
      | inl bad ↦ (let both : Some x ≡ None = sym found ∙ none_in_good (length lists) (successors_of lists k) (bad.earlier k lt) in cc)
      | inr bad ↦ (let both : Some x ≡ None = sym found ∙ none_in_good (length lists) (successors_of lists k) (bad.earlier k lt) in cc)
    ] in
    elim (cases_lt i j) [
      | inl lt ↦ absurd (before i j n lt a.first (inl b))
      | inr ge ↦ elim (cases_lt j i) [
        | inl lt ↦ absurd (before j i m lt b.first (inr a))
        | inr le ↦
            let same : i ≡ j = omega arith in
            let both : Some n ≡ Some m = sym a.first ∙ ap (λ (k : ℕ). find (λ y. nat_le (length lists) y) (successors_of lists k)) same ∙ b.first in
            (same, cc)
      ]
    ]
