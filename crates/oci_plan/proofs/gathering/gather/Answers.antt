use Rattle.std.proofs.Common.{◌≡◌, true, ◌⊎◌, length, sym, subst, arith, rules}
use Rattle.std.specs.Prelude.{Contains}
use Rattle.std.specs.List.{All}
use Rattle.std.specs.Vec.{vec_len}
use Rattle.oci_store.specs.Keyed.{has_key}
use Rattle.oci_store.specs.Graph.{nodes_of}
use Rattle.oci_plan.specs.Fault.{IsCauseOf}
use Rattle.oci_plan.specs.Graph.{lists_of}
use Rattle.oci_plan.specs.Outside.{IsToBring}
use Rattle.oci_plan.specs.Plan.{Planned, HasEdges, FollowsListed}
use Rattle.oci_plan.specs.declared.fault.OrderFault.{OrderFault}
use Rattle.oci_plan.proofs.Numbers.{no_bad_number}
use Rattle.oci_plan.proofs.Plans.{lists_length, is_graph, cycle_numbers, cycle_listed, cycle_fresh, cycle_met, cycle_spared, cycle_first, numbered, has_edges, follows_listed}
use Rattle.oci_plan.proofs.gathering.gather.Goals as goal

pub order-requires : goal.order-requires
order-requires g c =
    let len = lists_length _ _ _ _ _ _ c.in_ok-keys.field-0.keys.items c.in_ok-keys.field-0.lists.items c.in_ok-keys.ensures.gathered c.in_ok-keys.ensures.distinct in
    let few = c.in_ok-keys.ensures.gathered.few in
    let same : vec_len c.in_ok-keys.field-0.lists ≡ length c.in_ok-keys.field-0.lists.items = search rules in
    omega (arith, len, few, same)

pub new-requires : goal.new-requires
new-requires g c = record {
  distinct = c.in_ok-keys.ensures.distinct;
  numbered = numbered _ _ _ _ _ _ c.in_ok-keys.field-0.keys.items c.in_ok-keys.field-0.lists.items c.in_ok-keys.ensures.gathered c.in_ok-keys.ensures.distinct c.in-Ok.order c.in-Ok.ensures.lists;
}

pub keys_of-requires : goal.keys_of-requires
keys_of-requires g c =
    let cause = subst (λ (f : OrderFault). IsCauseOf (lists_of c.in_ok-keys.field-0.lists.items) f) c.in-Err-Cycle.field-0-is c.in-Err-Cycle.ensures.refused in
    rw (c.deref.ensures.value, c.deref-in-Err-Cycle.ensures.value) (cycle_numbers _ _ _ _ _ _ c.in_ok-keys.field-0.keys.items c.in_ok-keys.field-0.lists.items c.in_ok-keys.ensures.gathered c.in_ok-keys.ensures.distinct c.in-Err-Cycle.numbers.items cause.1)

pub unreachable-requires : goal.unreachable-requires
unreachable-requires g c =
    let cause = subst (λ (f : OrderFault). IsCauseOf (lists_of c.in_ok-keys.field-0.lists.items) f) c.in-Err-BadNumber.field-0-is c.in-Err-BadNumber.ensures.refused in
    no_bad_number (lists_of c.in_ok-keys.field-0.lists.items) _ _ (is_graph _ _ _ _ _ _ c.in_ok-keys.field-0.keys.items c.in_ok-keys.field-0.lists.items c.in_ok-keys.ensures.gathered c.in_ok-keys.ensures.distinct) cause

pub returns-in-Ok-clause-roots : goal.returns-in-Ok-clause-roots
returns-in-Ok-clause-roots g c =
    subst (λ (p : Planned). All (λ k. (has_key (g.D.Store.state c.args.destination.now).nodes k ≡ true) ⊎ Contains p.keys k) c.args.roots.now) (sym c.new.ensures) c.in_ok-keys.ensures.gathered.has_roots

pub returns-in-Ok-clause-outside : goal.returns-in-Ok-clause-outside
returns-in-Ok-clause-outside g c = λ h k.
    let bring = IsToBring c.args.existing (nodes_of (g.A.Store.state c.args.source.now).entries) (g.D.Store.state c.args.destination.now).nodes c.args.roots.now k in
    subst (λ (p : Planned). (Contains p.keys k → bring) × (bring → Contains p.keys k)) (sym c.new.ensures) (c.in_ok-keys.ensures.gathered.exactly h k)

pub returns-in-Ok-clause-edges : goal.returns-in-Ok-clause-edges
returns-in-Ok-clause-edges g c = λ h.
    subst (λ (p : Planned). HasEdges (nodes_of (g.A.Store.state c.args.source.now).entries) (g.D.Store.state c.args.destination.now).nodes p) (sym c.new.ensures)
    (has_edges _ _ _ _ _ _ c.in_ok-keys.field-0.keys.items c.in_ok-keys.field-0.lists.items c.in_ok-keys.ensures.gathered c.in_ok-keys.ensures.distinct c.in-Ok.order c.in-Ok.ensures.lists h c.in_ok-skipped.skipped.items)

pub returns-in-Ok-clause-follows : goal.returns-in-Ok-clause-follows
returns-in-Ok-clause-follows g c = λ h.
    subst (λ (p : Planned). FollowsListed (nodes_of (g.A.Store.state c.args.source.now).entries) (g.D.Store.state c.args.destination.now).nodes p) (sym c.new.ensures)
    (follows_listed _ _ _ _ _ _ c.in_ok-keys.field-0.keys.items c.in_ok-keys.field-0.lists.items c.in_ok-keys.ensures.gathered c.in_ok-keys.ensures.distinct c.in-Ok.order c.in-Ok.ensures.lists h c.in-Ok.ensures.order c.in_ok-skipped.skipped.items)

pub returns-in-Err-Cycle-clause-cause : goal.returns-in-Err-Cycle-clause-cause
returns-in-Err-Cycle-clause-cause g c =
    let cause = subst (λ (f : OrderFault). IsCauseOf (lists_of c.in_ok-keys.field-0.lists.items) f) c.in-Err-Cycle.field-0-is c.in-Err-Cycle.ensures.refused in
    let names = rw (c.deref.ensures.value, c.deref-in-Err-Cycle.ensures.value) at c.in_ok-keys_of-in-Err-Cycle.ensures in
    cycle_listed _ _ _ _ _ _ c.in_ok-keys.field-0.keys.items c.in_ok-keys.field-0.lists.items c.in_ok-keys.ensures.gathered c.in_ok-keys.ensures.distinct c.in-Err-Cycle.numbers.items c.in_ok-keys_of-in-Err-Cycle.field-0.items cause.1 names

pub returns-in-Err-Cycle-clause-spared : goal.returns-in-Err-Cycle-clause-spared
returns-in-Err-Cycle-clause-spared g c =
    let names = rw (c.deref.ensures.value, c.deref-in-Err-Cycle.ensures.value) at c.in_ok-keys_of-in-Err-Cycle.ensures in
    cycle_spared _ _ _ _ _ _ c.in_ok-keys.field-0.keys.items c.in_ok-keys.field-0.lists.items c.in_ok-keys.ensures.gathered c.in_ok-keys.ensures.distinct c.in-Err-Cycle.numbers.items c.in_ok-keys_of-in-Err-Cycle.field-0.items names

pub returns-in-Err-Cycle-clause-named : goal.returns-in-Err-Cycle-clause-named
returns-in-Err-Cycle-clause-named g c =
    let names = rw (c.deref.ensures.value, c.deref-in-Err-Cycle.ensures.value) at c.in_ok-keys_of-in-Err-Cycle.ensures in
    cycle_fresh _ _ _ _ _ _ c.in_ok-keys.field-0.keys.items c.in_ok-keys.field-0.lists.items c.in_ok-keys.ensures.gathered c.in_ok-keys.ensures.distinct c.in-Err-Cycle.numbers.items c.in_ok-keys_of-in-Err-Cycle.field-0.items names

pub returns-in-Err-Cycle-clause-named_met : goal.returns-in-Err-Cycle-clause-named_met
returns-in-Err-Cycle-clause-named_met g c =
    let names = rw (c.deref.ensures.value, c.deref-in-Err-Cycle.ensures.value) at c.in_ok-keys_of-in-Err-Cycle.ensures in
    cycle_met _ _ _ _ _ _ c.in_ok-keys.field-0.keys.items c.in_ok-keys.field-0.lists.items c.in_ok-keys.ensures.gathered c.in_ok-keys.ensures.distinct c.in-Err-Cycle.numbers.items c.in_ok-keys_of-in-Err-Cycle.field-0.items names

pub returns-in-Err-Cycle-clause-first : goal.returns-in-Err-Cycle-clause-first
returns-in-Err-Cycle-clause-first g c =
    let cause = subst (λ (f : OrderFault). IsCauseOf (lists_of c.in_ok-keys.field-0.lists.items) f) c.in-Err-Cycle.field-0-is c.in-Err-Cycle.ensures.refused in
    let names = rw (c.deref.ensures.value, c.deref-in-Err-Cycle.ensures.value) at c.in_ok-keys_of-in-Err-Cycle.ensures in
    cycle_first _ _ _ _ _ _ c.in_ok-keys.field-0.keys.items c.in_ok-keys.field-0.lists.items c.in_ok-keys.ensures.gathered c.in_ok-keys.ensures.distinct c.in-Err-Cycle.numbers.items c.in_ok-keys_of-in-Err-Cycle.field-0.items cause.1 names
