-- The rule of a deque: every number that was put into it is in it or was taken.
use Rattle.std.specs.Prelude.{◌≡◌, ℕ, ◌+◌, cond, List, [], ◌∷◌, nat_eq}
use Rattle.oci_pool.specs.declared.deque.rule.Tally.{Tally}

-- the numbers that a seat has put and taken
abbrev pub tally : List ℕ → List ℕ → Tally
tally put taken = record { put = put; taken = taken }

-- how often x is in the list
abbrev pub times : ℕ → List ℕ → ℕ
times x [] = 0
times x (y ∷ ys) = cond (nat_eq y x) 1 0 + times x ys

-- the sum of f over the list
abbrev pub total : (Tally → ℕ) → List Tally → ℕ
total f [] = 0
total f (v ∷ vs) = f v + total f vs

-- the deque holds a number as often as the number was put by all seats together and not yet taken
abbrev pub IsBalanced : List ℕ → List Tally → Type 0
IsBalanced items views = (x : ℕ) → total (λ v. times x v.put) views ≡ total (λ v. times x v.taken) views + times x items
