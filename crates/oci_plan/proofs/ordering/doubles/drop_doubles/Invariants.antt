use Rattle.std.proofs.Common.{◌≡◌, ◌≤◌, length, take, map}
use Rattle.std.specs.Prelude.{All}
use Rattle.oci_plan.specs.Graph.{lists_of, without_doubles}
use Rattle.oci_plan.proofs.ordering.doubles.drop_doubles.Given as goal

abbrev pub invariant-loop-i : goal.invariant-loop-i
invariant-loop-i l = (lists_of l.kept.items ≡ map without_doubles (lists_of (take l.i l.lists))) × All (λ last. last ≤ l.i) l.seen.items × (length l.seen.items ≡ length l.lists)
