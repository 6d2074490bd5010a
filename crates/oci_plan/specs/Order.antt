-- Orders of a graph's numbers, each after its successors.
use Rattle.std.specs.Prelude.{◌≡◌, ℕ, ◌<◌, ◌≤◌, List, length, map, take, All, Contains, EachIndex, slice_index}
use Rattle.oci_plan.specs.Graph.{successors_of, without_doubles, AreNumbers, IsGraph, IsDistinct}

-- each number of the sequence follows its successors
abbrev pub FollowsSuccessors : List (List ℕ) → List ℕ → Type 0
FollowsSuccessors lists sequence = EachIndex sequence (λ i. All (Contains (take i sequence)) (successors_of lists (slice_index sequence i)))

-- a topological order: each number of the graph once, and each after its successors
pub record IsTopological (lists : List (List ℕ)) (sequence : List ℕ) : Type 0 where
  pub numbers : AreNumbers lists sequence
  pub distinct : IsDistinct sequence
  pub complete : (n : ℕ) → n < length lists → Contains sequence n
  pub len : length sequence ≡ length lists
  pub follows : FollowsSuccessors lists sequence

-- the value of an `Order` for its callers: the successors of each number, and the numbers in their
-- order
pub record Ordered : Type 0 where
  pub lists : List (List ℕ)
  pub sequence : List ℕ

-- This holds of every order: its lists are the lists of a graph, at most 4294967295, and none has a
-- number twice. Its sequence is a topological order.
pub record IsOrder (o : Ordered) : Type 0 where
  pub count : length o.lists ≤ 4294967295
  pub graph : IsGraph o.lists
  pub no_doubles : (n : ℕ) → IsDistinct (successors_of o.lists n)
  pub topological : IsTopological o.lists o.sequence

-- an order of the graph with these lists, once each list has lost its doubles
pub record IsOrderOf (lists : List (List ℕ)) (o : Ordered) : Type 0 where
  pub order : IsOrder o
  pub distinct : o.lists ≡ map without_doubles lists
  pub topological : IsTopological lists o.sequence
