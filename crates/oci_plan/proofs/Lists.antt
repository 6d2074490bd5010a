-- Lists of numbers that grow and shrink at their end.
use Rattle.std.proofs.Common.{◌≡◌, ◌≢◌, ℕ, ◌+◌, ◌-◌, ◌<◌, ◌≤◌, inl, inr, List, [], ◌∷◌, ◌++◌, length, take, get_or, sym, ap, ◌∙◌, arith, subst, length-append}
use Rattle.std.specs.Prelude.{All, Contains}
use Rattle.std.proofs.lemmas.Bool.{cases_lt}
use Rattle.std.proofs.lemmas.List.{get_or_append_left, get_or-take, length-take-le, take-append-le}
use Rattle.std.proofs.lemmas.List.Elements.{Contains-get_or, Contains-append_left, All-weaker}
use Rattle.std.proofs.lemmas.List.Quantifiers.{all_pairs_push}
use Rattle.std.proofs.lemmas.Grind.{common_steps, get_or_default_zero}
use Rattle.std.proofs.Math.Seq.{get_or-append_seam, take-append_seam}
use Rattle.oci_plan.specs.Graph.{successors_of, HasEdge, IsDistinct, IsPath}
use Rattle.oci_plan.specs.Order.{FollowsSuccessors}
use Rattle.oci_plan.specs.Search.{EndsWith}

-- a number that is not there yet goes to the end
pub IsDistinct-push : (numbers : List ℕ) (n : ℕ) → IsDistinct numbers → (Contains numbers n → ⊥) → IsDistinct (numbers ++ n ∷ [])
IsDistinct-push numbers n distinct absent = all_pairs_push (λ x y. x ≢ y) numbers n distinct (λ k d lt e. absent (subst (Contains numbers) e (Contains-get_or numbers k d lt)))

-- a beginning of a list without doubles has none
pub IsDistinct-take : (count : ℕ) (numbers : List ℕ) → count ≤ length numbers → IsDistinct numbers → IsDistinct (take count numbers)
IsDistinct-take count numbers fits distinct i j d lt below =
    let len : length (take count numbers) ≡ count = length-take-le count numbers fits in
    let near : j < count = omega arith in
    let far : i < count = omega arith in
    λ e. distinct i j d lt (omega arith) (sym (get_or-take count numbers i d far) ∙ e ∙ get_or-take count numbers j d near)

-- a path goes on by an edge from its end
pub IsPath-push : (lists : List (List ℕ)) (numbers : List ℕ) (n : ℕ) → IsPath lists numbers → ((last : ℕ) → EndsWith numbers last → HasEdge lists last n) → IsPath lists (numbers ++ n ∷ [])
IsPath-push lists numbers n is_path edge i within =
    let len : length (numbers ++ n ∷ []) ≡ length numbers + 1 = length-append numbers (n ∷ []) in
    let at : get_or (numbers ++ n ∷ []) i 0 ≡ get_or numbers i 0 = get_or_append_left numbers (n ∷ []) 0 i (omega arith) in
    elim (cases_lt (i + 1) (length numbers)) [
      | inl lt ↦
          let next : get_or (numbers ++ n ∷ []) (i + 1) 0 ≡ get_or numbers (i + 1) 0 = get_or_append_left numbers (n ∷ []) 0 (i + 1) lt in
          rw (at, next) (is_path i lt)
      | inr past ↦
          let end : length numbers ≡ i + 1 = omega arith in
          let next : get_or (numbers ++ n ∷ []) (i + 1) 0 ≡ n = ap (λ (k : ℕ). get_or (numbers ++ n ∷ []) k 0) (sym end) ∙ get_or-append_seam numbers n [] 0 in
          let place : length numbers - 1 ≡ i = omega arith in
          rw (at, next) (edge (get_or numbers i 0) (record { some = omega arith; last = ap (λ (k : ℕ). get_or numbers k 0) place }))
    ]

-- a beginning of a path is one
pub IsPath-take : (lists : List (List ℕ)) (count : ℕ) (numbers : List ℕ) → count ≤ length numbers → IsPath lists numbers → IsPath lists (take count numbers)
IsPath-take lists count numbers fits is_path i within =
    let len : length (take count numbers) ≡ count = length-take-le count numbers fits in
    let near : i + 1 < count = omega arith in
    let at : get_or (take count numbers) i 0 ≡ get_or numbers i 0 = get_or-take count numbers i 0 (omega arith) in
    let next : get_or (take count numbers) (i + 1) 0 ≡ get_or numbers (i + 1) 0 = get_or-take count numbers (i + 1) 0 near in
    rw (at, next) (is_path i (omega arith))

-- a number goes to the end of a sequence that has its successors
pub FollowsSuccessors-push : (lists : List (List ℕ)) (sequence : List ℕ) (n : ℕ) → FollowsSuccessors lists sequence → All (Contains sequence) (successors_of lists n) → FollowsSuccessors lists (sequence ++ n ∷ [])
FollowsSuccessors-push lists sequence n follows ready i within =
    let len : length (sequence ++ n ∷ []) ≡ length sequence + 1 = length-append sequence (n ∷ []) in
    elim (cases_lt i (length sequence)) [
      | inl lt ↦
          let at : get_or (sequence ++ n ∷ []) i 0 ≡ get_or sequence i 0 = get_or_append_left sequence (n ∷ []) 0 i lt in
          let front : take i (sequence ++ n ∷ []) ≡ take i sequence = take-append-le i sequence (n ∷ []) (omega arith) in
          rw (at, front) (follows i lt)
      | inr past ↦
          let end : i ≡ length sequence = omega arith in
          let at : get_or (sequence ++ n ∷ []) i 0 ≡ n = ap (λ (k : ℕ). get_or (sequence ++ n ∷ []) k 0) end ∙ get_or-append_seam sequence n [] 0 in
          let front : take i (sequence ++ n ∷ []) ≡ sequence = ap (λ (k : ℕ). take k (sequence ++ n ∷ [])) end ∙ take-append_seam sequence (n ∷ []) in
          rw (at, front) ready
    ]

-- what stands in a list stands in a longer one
pub All-Contains_push : (xs sequence : List ℕ) (n : ℕ) → All (Contains sequence) xs → All (Contains (sequence ++ n ∷ [])) xs
All-Contains_push xs sequence n all = All-weaker (Contains sequence) (Contains (sequence ++ n ∷ [])) (λ x here. Contains-append_left sequence (n ∷ []) x here) xs all

-- in a list that ends with n, another number stands before the end
pub Contains-before_end : (numbers : List ℕ) (n m : ℕ) → EndsWith numbers n → m ≢ n → Contains numbers m → Contains (take (length numbers - 1) numbers) m
Contains-before_end numbers n m ends other here =
    let k : ℕ = here.0 in
    let at : get_or numbers k m ≡ m = here.2 in
    elim (cases_lt k (length numbers - 1)) [
      | inl lt ↦
          let len : length (take (length numbers - 1) numbers) ≡ length numbers - 1 = length-take-le (length numbers - 1) numbers (omega arith) in
          (k, omega arith, get_or-take (length numbers - 1) numbers k m lt ∙ at)
      | inr past ↦ absurd (other (grind (arith, common_steps)))
    ]

-- in a list without doubles the last number does not stand before the end
pub absent-before_end : (numbers : List ℕ) (n : ℕ) → EndsWith numbers n → IsDistinct numbers → Contains (take (length numbers - 1) numbers) n → ⊥
absent-before_end numbers n ends distinct here =
    let len : length (take (length numbers - 1) numbers) ≡ length numbers - 1 = length-take-le (length numbers - 1) numbers (omega arith) in
    let k : ℕ = here.0 in
    let lt : k < length numbers - 1 = omega (arith, here.1) in
    let at : get_or numbers k n ≡ n = sym (get_or-take (length numbers - 1) numbers k n lt) ∙ here.2 in
    distinct k (length numbers - 1) 0 lt (omega arith) (sym (get_or_default_zero numbers k n (omega arith)) ∙ at ∙ sym ends.last)

-- what stands before the end stands in the list
pub Contains-take : (count : ℕ) (numbers : List ℕ) (n : ℕ) → count ≤ length numbers → Contains (take count numbers) n → Contains numbers n
Contains-take count numbers n fits here =
    let len : length (take count numbers) ≡ count = length-take-le count numbers fits in
    let lt : here.0 < count = omega (arith, here.1) in
    (here.0, omega arith, sym (get_or-take count numbers here.0 n lt) ∙ here.2)
