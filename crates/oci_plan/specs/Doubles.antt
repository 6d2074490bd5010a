-- The numbers of a list that have been met already.
use Rattle.std.specs.Prelude.{◌≡◌, ℕ, ◌<◌, Bool, cond, eqb, List, [], ◌∷◌, ◌++◌, length, slice_index}
use Rattle.std.specs.List.{list_any}

-- whether a list has a number
abbrev pub has : ℕ → List ℕ → Bool
has n numbers = list_any (λ m. eqb n m) numbers

-- a list with a number at its end, unless the list has the number already
abbrev pub with_number : List ℕ → ℕ → List ℕ
with_number numbers n = cond (has n numbers) numbers (numbers ++ n ∷ [])

-- the numbers of a list bear the stamp, and no others do
abbrev pub IsStamped : List ℕ → ℕ → List ℕ → Type 0
IsStamped seen stamp numbers = (n : ℕ) → n < length seen → eqb (slice_index seen n) stamp ≡ has n numbers
