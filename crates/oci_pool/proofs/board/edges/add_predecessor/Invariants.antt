use Rattle.std.proofs.Common.{◌≡◌, ◌<◌, ◌++◌, ◌∷◌, [], ℕ, cond, length, take}
use Rattle.oci_plan.specs.Graph.{lists_of, successors_of}
use Rattle.oci_plan.specs.Doubles.{has}
use Rattle.oci_pool.proofs.board.edges.add_predecessor.Given as goal

abbrev pub invariant-loop-listed : goal.invariant-loop-listed
invariant-loop-listed l = record {
  len : length l.predecessors.items ≡ length l.initial.predecessors.items;
  added : (k : ℕ) → k < length l.predecessors.items → successors_of (lists_of l.predecessors.items) k ≡ successors_of (lists_of l.initial.predecessors.items) k ++ cond (has k (take l.listed-index l.list)) (l.number ∷ []) [];
}
