use Rattle.std.proofs.lemmas.Result.{err_from_is_err_and}
use Rattle.oci_copy.proofs.Causes.{refused_open}
use Rattle.oci_copy.proofs.planning.plan_copy.Goals as goal

pub returns-in_err-check_destination-clause-cause : goal.returns-in_err-check_destination-clause-cause
returns-in_err-check_destination-clause-cause g c =
    let p = err_from_is_err_and c.from_residual.result c.from_residual.ensures.1 in
    rw (p.1, p.2) (refused_open (λ s o k e. ⊥) c.args.options.now (g.A.Store.state c.args.source.now) (g.D.Store.state c.args.destination.now) c.args.roots.now _ c.in_err-check_destination.ensures.open)
