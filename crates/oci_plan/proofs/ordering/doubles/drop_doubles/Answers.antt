use Rattle.std.proofs.Common.{◌≡◌, length, ap, ◌∙◌}
use Rattle.oci_plan.proofs.Numbers.{numbers_here}
use Rattle.oci_plan.proofs.ordering.doubles.drop_doubles.Goals as goal

pub first_places-requires-clause-numbers : goal.first_places-requires-clause-numbers
first_places-requires-clause-numbers c =
    let count : length c.deref_mut.result.now ≡ length c.args.lists.now = ap length c.deref_mut.ensures.value ∙ c.loop-i.invariant.2 in
    numbers_here c.args.lists.now c.loop-i.i c.index-lists-i.result c.deref.result.now (length c.deref_mut.result.now) c.requires.graph c.loop-i-test.true c.index-lists-i.is c.deref.ensures.value count
