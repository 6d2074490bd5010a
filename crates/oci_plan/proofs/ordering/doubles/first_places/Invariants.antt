use Rattle.std.proofs.Common.{◌≡◌, ◌≤◌, take}
use Rattle.std.specs.Prelude.{All}
use Rattle.oci_plan.specs.Graph.{without_doubles}
use Rattle.oci_plan.specs.Doubles.{IsStamped}
use Rattle.oci_plan.proofs.ordering.doubles.first_places.Given as goal

abbrev pub invariant-loop-number : goal.invariant-loop-number
invariant-loop-number l = (l.kept.items ≡ without_doubles (take l.number-index l.list)) × IsStamped l.seen l.stamp l.kept.items × All (λ last. last ≤ l.stamp) l.seen
