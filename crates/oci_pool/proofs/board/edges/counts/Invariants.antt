use Rattle.std.proofs.Common.{◌≡◌, ◌<◌, ℕ, length, get_or, vec_len}
use Rattle.oci_plan.specs.Graph.{successors_of}
use Rattle.oci_pool.proofs.board.edges.counts.Given as goal

abbrev pub invariant-loop-number : goal.invariant-loop-number
invariant-loop-number l = (vec_len l.counts ≡ l.number) × ((n : ℕ) → n < l.number → get_or l.counts.items n 0 ≡ length (successors_of l.order.lists n))
