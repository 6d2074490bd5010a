use Rattle.std.proofs.Common.{◌∙◌}
use Rattle.oci_plan.specs.Graph.{lists_of}
use Rattle.oci_plan.proofs.Numbers.{found_here, good_more}
use Rattle.oci_plan.proofs.ordering.topological.first_bad_number.Goals as goal

pub loop-i-preserved : goal.loop-i-preserved
loop-i-preserved c = good_more (lists_of c.args.lists.now) c.loop-i.i (found_here c.args.lists.now c.loop-i.i c.index-lists-i.result c.deref.result.now c.first_bad.result c.loop-i-test.true c.index-lists-i.is c.deref.ensures.value c.first_bad.ensures ∙ c.in_default.is) c.loop-i.invariant
