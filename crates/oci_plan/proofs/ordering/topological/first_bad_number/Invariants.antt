use Rattle.std.proofs.Common.{◌<◌, ℕ}
use Rattle.oci_plan.specs.Graph.{lists_of, successors_of, AreNumbers}
use Rattle.oci_plan.proofs.ordering.topological.first_bad_number.Given as goal

abbrev pub invariant-loop-i : goal.invariant-loop-i
invariant-loop-i l = (j : ℕ) → j < l.i → AreNumbers (lists_of l.lists) (successors_of (lists_of l.lists) j)
