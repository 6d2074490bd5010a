use Rattle.std.proofs.Common.{◌≡◌, ◌<◌, ℕ, length}
use Rattle.std.specs.Prelude.{filter}
use Rattle.std.specs.List.{range_with_len}
use Rattle.oci_plan.specs.Graph.{lists_of, successors_of}
use Rattle.oci_plan.specs.Doubles.{has}
use Rattle.oci_pool.proofs.board.edges.predecessors.Given as goal

abbrev pub invariant-loop-number : goal.invariant-loop-number
invariant-loop-number l = record {
  len : length l.predecessors.items ≡ length l.order.lists;
  predecessors : (k : ℕ) → k < length l.order.lists → successors_of (lists_of l.predecessors.items) k ≡ filter (λ n. has k (successors_of l.order.lists n)) (range_with_len 0 l.number);
}
