-- Graphs of numbers: list i has the successors of number i, and the numbers are those below the
-- number of lists.
use Rattle.std.specs.Prelude.{◌≡◌, ◌≢◌, ◌==◌, ℕ, ◌+◌, ◌-◌, ◌<◌, ◌≤◌, not, List, [], ◌∷◌, length, map, filter, find, nat_le, Some, All, AllPairs, Contains, slice_index}
use Rattle.std.specs.List.{slice_index_or}
use Rattle.std.specs.Global.{Vec}

-- the lists of a vector of vectors
abbrev pub lists_of : List (Vec ℕ) → List (List ℕ)
lists_of vectors = map (λ v. v.items) vectors

-- the successors of a number: its list, or the empty list if it is no number of the graph
abbrev pub successors_of : List (List ℕ) → ℕ → List ℕ
successors_of lists n = slice_index_or lists n []

-- an edge leads from m to n: n is a successor of m
abbrev pub HasEdge : List (List ℕ) → ℕ → ℕ → Type 0
HasEdge lists m n = Contains (successors_of lists m) n

-- each of these is a number of the graph
abbrev pub AreNumbers : List (List ℕ) → List ℕ → Type 0
AreNumbers lists numbers = All (λ n. n < length lists) numbers

-- each successor of each number is a number of the graph
abbrev pub IsGraph : List (List ℕ) → Type 0
IsGraph lists = (n : ℕ) → AreNumbers lists (successors_of lists n)

-- a graph of at most 4294967295 numbers
pub record IsSmallGraph (vectors : List (Vec ℕ)) : Type 0 where
  pub count : length vectors ≤ 4294967295
  pub graph : IsGraph (lists_of vectors)

-- no number is in the list twice
abbrev pub IsDistinct : List ℕ → Type 0
IsDistinct numbers = AllPairs (λ m n. m ≢ n) numbers

-- each number is a successor of the one before it
abbrev pub IsPath : List (List ℕ) → List ℕ → Type 0
IsPath lists numbers = (i : ℕ) → i + 1 < length numbers → HasEdge lists (slice_index numbers i) (slice_index numbers (i + 1))

-- a cycle: one or more distinct numbers, each a successor of the one before, and the first a
-- successor of the last
pub record IsCycle (lists : List (List ℕ)) (numbers : List ℕ) : Type 0 where
  pub some : 0 < length numbers
  pub distinct : IsDistinct numbers
  pub path : IsPath lists numbers
  pub closes : HasEdge lists (slice_index numbers (length numbers - 1)) (slice_index numbers 0)

-- a list with each of its numbers once, at its first place
abbrev pub without_doubles : List ℕ → List ℕ
without_doubles [] = []
without_doubles (n ∷ ns) = n ∷ filter (λ m. not (n == m)) (without_doubles ns)

-- list i is the first with an element that is no number of the graph, and n is its first such
-- element
pub record IsFirstBad (lists : List (List ℕ)) (i n : ℕ) : Type 0 where
  pub earlier : (j : ℕ) → j < i → AreNumbers lists (successors_of lists j)
  pub first : find (λ m. nat_le (length lists) m) (successors_of lists i) ≡ Some n
