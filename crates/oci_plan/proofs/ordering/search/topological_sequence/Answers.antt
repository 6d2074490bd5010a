use Rattle.std.proofs.Common.{arith}
use Rattle.oci_plan.specs.Graph.{lists_of}
use Rattle.oci_plan.proofs.Ends.{length-lists_of, topological_at_end}
use Rattle.oci_plan.proofs.ordering.search.topological_sequence.Goals as goal

pub returns : goal.returns
returns c = topological_at_end (lists_of c.args.lists.now) c.loop-start.search.progress.items c.loop-start.search.path.items c.loop-start.search.sequence.items c.loop-start.invariant.0 c.loop-start.invariant.1 (λ n lt. c.loop-start.invariant.2 n (omega (arith, lt, length-lists_of c.args.lists.now)))
