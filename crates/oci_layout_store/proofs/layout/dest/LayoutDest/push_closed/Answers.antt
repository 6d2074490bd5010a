use Rattle.std.proofs.lemmas.Result.{err_from_is_err_and}
use Rattle.oci_store.proofs.Checks.{closed_check-held, Refused-closed, IsPush-refused}
use Rattle.oci_layout_store.proofs.layout.dest.LayoutDest.push_closed.Goals as goal

pub returns-then-has-clause-pushed : goal.returns-then-has-clause-pushed
returns-then-has-clause-pushed g c =
    IsPush-refused _ _ (c.args.key.now, c.args.bytes) _ tt (closed_check-held _ c.args.key.now c.args.bytes (cc c.has.ensures))

pub returns-in_err-check-clause-pushed : goal.returns-in_err-check-clause-pushed
returns-in_err-check-clause-pushed g c =
    let did = c.in_err-check.ensures in
    let p = err_from_is_err_and c.from_residual.result c.from_residual.ensures.1 in
    rw (p.1, p.2)
    (IsPush-refused _ _ (c.args.key.now, c.args.bytes) _ did.checked.1 (Refused-closed _ c.args.key.now c.args.bytes _ (cc c.has.ensures) did.checked.1 did.checked.0))
