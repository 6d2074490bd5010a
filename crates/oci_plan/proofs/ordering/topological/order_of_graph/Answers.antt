use Rattle.std.proofs.Common.{arith}
use Rattle.oci_plan.specs.Graph.{lists_of}
use Rattle.oci_plan.proofs.Ends.{length-lists_of}
use Rattle.oci_plan.proofs.Orders.{IsOrder-without_doubles}
use Rattle.oci_plan.proofs.ordering.topological.order_of_graph.Goals as goal

pub invariant_of-result : goal.invariant_of-result
invariant_of-result c = IsOrder-without_doubles (lists_of c.args.lists.now) (lists_of c.in_ok-distinct.distinct.items) c.in_ok-sequence.sequence.items c.in_ok-distinct.ensures (omega (arith, c.requires.count, length-lists_of c.args.lists.now)) c.requires.graph c.in_ok-sequence.ensures

pub returns : goal.returns
returns c = record {
  order = IsOrder-without_doubles (lists_of c.args.lists.now) (lists_of c.in_ok-distinct.distinct.items) c.in_ok-sequence.sequence.items c.in_ok-distinct.ensures (omega (arith, c.requires.count, length-lists_of c.args.lists.now)) c.requires.graph c.in_ok-sequence.ensures;
  distinct = c.in_ok-distinct.ensures;
  topological = c.in_ok-sequence.ensures;
}
