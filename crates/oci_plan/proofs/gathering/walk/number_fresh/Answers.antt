use Rattle.std.proofs.Common.{◌+◌, not, List, sym, ap, subst, take}
use Rattle.std.specs.List.{filter}
use Rattle.std.proofs.lemmas.Result.{err_from_is_err_and}
use Rattle.oci_plan.specs.Plan.{Number}
use Rattle.oci_plan.specs.Visiting.{is_fresh}
use Rattle.oci_plan.proofs.Names.{numbered_more, names_many-all}
use Rattle.oci_plan.proofs.gathering.walk.number_fresh.Goals as goal
use Rattle.std.proofs.Common.{ℕ}

pub returns-in_err-number-clause-refused : goal.returns-in_err-number-clause-refused
returns-in_err-number-clause-refused g c =
    let p = err_from_is_err_and c.from_residual.result c.from_residual.ensures.1 in
    rw (p.1, p.2)
    (names_many-all (is_fresh (g.D.Store.state c.args.destination.now).nodes) c.args.keys.now c.loop-key.keys c.args.successors.now c.loop-key.key-index c.key-item.result c.in_err-number.field-0.0
    c.loop-key-test.true c.key-item.is (ap not (sym c.if-has.ensures)) c.loop-key.invariant.keys c.in_err-number.ensures.refused)

pub loop-key-preserved : goal.loop-key-preserved
loop-key-preserved g c =
    let it = numbered_more (is_fresh (g.D.Store.state c.args.destination.now).nodes) c.args.keys.now c.loop-key.keys c.number.new.keys c.args.successors.now c.loop-key.numbers.items c.loop-key.key-index c.in_ok-number.field-0 c.key-item.result
    c.loop-key-test.true c.key-item.is (ap not (sym c.if-has.ensures)) c.loop-key.invariant.keys c.loop-key.invariant.numbers c.in_ok-number.ensures.numbered.keys c.in_ok-number.ensures.numbered.number in
    record {
      keys = it.keys;
      numbers = subst (λ (ns : List ℕ). Number c.number.new.keys ns (filter (is_fresh (g.D.Store.state c.args.destination.now).nodes) (take (c.loop-key.key-index + 1) c.args.successors.now))) (sym c.in_ok-push.ensures.items) it.names;
      few = c.in_ok-number.ensures.numbered.few;
    }
