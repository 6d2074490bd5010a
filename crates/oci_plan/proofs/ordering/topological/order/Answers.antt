use Rattle.oci_plan.specs.Graph.{lists_of, IsGraph, IsFirstBad}
use Rattle.oci_plan.proofs.Numbers.{no_bad_number, first_bad_same}
use Rattle.oci_plan.proofs.Orders.{no_cycle_if_ok}
use Rattle.oci_plan.proofs.ordering.topological.order.Goals as goal

pub returns-in-Some-clause-bad_number : goal.returns-in-Some-clause-bad_number
returns-in-Some-clause-bad_number c = λ i n bad.
    let here : IsFirstBad (lists_of c.args.lists.items) c.in-Some.list c.in-Some.number = rw c.deref.ensures.value at c.in-Some.ensures.bad in
    let same = first_bad_same (lists_of c.args.lists.items) c.in-Some.list c.in-Some.number i n here bad in
    rw (same.0, same.1)

pub returns-clause-no_cycle : goal.returns-clause-no_cycle
returns-clause-no_cycle c =
    rw (← c.deref-2.ensures.value)
    (no_cycle_if_ok (lists_of c.deref-2.result.now) c.order_of_graph.result _ c.order_of_graph.ensures)

pub returns-clause-bad_number : goal.returns-clause-bad_number
returns-clause-bad_number c = λ i n bad.
    let graph : IsGraph (lists_of c.args.lists.items) = rw c.deref.ensures.value at c.in_default.ensures.graph in
    absurd (no_bad_number (lists_of c.args.lists.items) i n graph bad)
