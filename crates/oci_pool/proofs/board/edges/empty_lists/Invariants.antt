use Rattle.std.proofs.Common.{◌≡◌, [], ℕ, vec_len}
use Rattle.oci_plan.specs.Graph.{lists_of, successors_of}
use Rattle.oci_pool.proofs.board.edges.empty_lists.Given as goal

abbrev pub invariant-loop : goal.invariant-loop
invariant-loop l = (vec_len l.lists ≡ l.counter) × ((k : ℕ) → successors_of (lists_of l.lists.items) k ≡ [])
