-- The search that finds an order: its state at each moment, and that it ends.
use Rattle.std.specs.Prelude.{◌≡◌, ◌≢◌, ℕ, ◌+◌, ◌-◌, ◌<◌, ◌≤◌, ◌^◌, List, length, take, drop, All, Contains, Result, MatchResult, sum_by, slice_index}
use Rattle.std.specs.List.{slice_index_or}
use Rattle.std.specs.Global.{Vec}
use Rattle.oci_plan.specs.Fault.{IsCauseOf}
use Rattle.oci_plan.specs.Graph.{lists_of, successors_of, IsGraph, IsDistinct, IsPath}
use Rattle.oci_plan.specs.Order.{FollowsSuccessors}
use Rattle.oci_plan.specs.declared.fault.OrderFault.{OrderFault}
use Rattle.oci_plan.specs.declared.ordering.search.Progress.{Progress}
use Rattle.oci_plan.specs.declared.ordering.search.Search.{Search}
use Rattle.oci_plan.specs.declared.ordering.search.Progress.TheVariants.{New, Open, Done}

-- the state of a number in the search
abbrev pub progress_of : List Progress → ℕ → Progress
progress_of progress n = slice_index_or progress n New

-- 1 for a number that is done
abbrev pub done_count : Progress → ℕ
done_count New = 0
done_count (Open finished) = 0
done_count Done = 1

-- an upper bound on the steps that the search may still take at a number, since a list has at most
-- 2^64 - 1 elements
abbrev pub steps_left : Progress → ℕ
steps_left New = 2 ^ 64 + 1
steps_left (Open finished) = 2 ^ 64 - finished
steps_left Done = 0

-- the sum of these bounds over all numbers; each step lowers it, so the search ends
abbrev pub work_left : List Progress → ℕ
work_left progress = sum_by steps_left progress

-- each number that was met before is still met
abbrev pub KeepsMet : List Progress → List Progress → Type 0
KeepsMet old new = (n : ℕ) → progress_of old n ≢ New → progress_of new n ≢ New

-- the number that a list ends with
pub record EndsWith (numbers : List ℕ) (n : ℕ) : Type 0 where
  pub some : 0 < length numbers
  pub last : slice_index numbers (length numbers - 1) ≡ n

-- This holds between two steps: the path has the open numbers; the sequence has the done numbers,
-- each after its successors; and the finished successors of an open number are done.
pub record IsSound (lists : List (List ℕ)) (progress : List Progress) (path sequence : List ℕ) : Type 0 where
  pub known : length progress ≡ length lists
  pub path_open : (n : ℕ) → Contains path n → (count : ℕ) × (progress_of progress n ≡ Open count)
  pub open_path : (n count : ℕ) → progress_of progress n ≡ Open count → Contains path n
  pub path_distinct : IsDistinct path
  pub is_path : IsPath lists path
  pub sequence_done : (n : ℕ) → Contains sequence n → progress_of progress n ≡ Done
  pub done_sequence : (n : ℕ) → progress_of progress n ≡ Done → Contains sequence n
  pub sequence_distinct : IsDistinct sequence
  pub follows : FollowsSuccessors lists sequence
  pub finished : (n count : ℕ) → progress_of progress n ≡ Open count → (count ≤ length (successors_of lists n)) × All (Contains sequence) (take count (successors_of lists n))
  pub counted : sum_by done_count progress ≡ length sequence

-- the part of a path from a number on
pub record IsTailFrom (path : List ℕ) (n : ℕ) (tail : List ℕ) : Type 0 where
  pub place : ℕ
  pub within : place < length path
  pub starts : slice_index path place ≡ n
  pub rest : tail ≡ drop place path

-- the search is between two steps
abbrev pub IsBetween : List (List ℕ) → Search → Type 0
IsBetween lists s = IsSound lists s.progress.items s.path.items s.sequence.items

-- the search is between two steps, and n is a number of the graph
pub record IsBetweenAt (vectors : List (Vec ℕ)) (s : Search) (n : ℕ) : Type 0 where
  pub number : n < length vectors
  pub between : IsBetween (lists_of vectors) s

-- each successor of each number is a number, and the search is between two steps
pub record IsSearching (lists : List (List ℕ)) (s : Search) : Type 0 where
  pub graph : IsGraph lists
  pub between : IsBetween lists s

-- the number at the path's end is open, and its `count` finished successors are all that it has
pub record IsSpent (lists : List (List ℕ)) (s : Search) (n count : ℕ) : Type 0 where
  pub last : EndsWith s.path.items n
  pub progress : progress_of s.progress.items n ≡ Open count
  pub all : length (successors_of lists n) ≤ count

-- a step brought the search between two steps again; less work is left, and each number that was
-- met before is still met
pub record IsStepped (lists : List (List ℕ)) (old new : Search) : Type 0 where
  pub between : IsBetween lists new
  pub smaller : work_left new.progress.items < work_left old.progress.items
  pub keeps : KeepsMet old.progress.items new.progress.items

-- the outcome of a step: it was made, or its fault is true of the graph
abbrev pub Steps : List (List ℕ) → Search → Search → Result Unit OrderFault → Type 0
Steps lists old new result = MatchResult result (λ _. IsStepped lists old new) (IsCauseOf lists)
