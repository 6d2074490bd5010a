use Rattle.std.proofs.lemmas.Result.{err_from_is_err_and}
use Rattle.oci_store.proofs.Checks.{closed_check-held, Refused-closed, IsPush-refused}
use Rattle.oci_store.proofs.dest.Dest.push_closed.Goals as goal

pub returns-then-has-clause-pushed : goal.returns-then-has-clause-pushed
returns-then-has-clause-pushed g c =
    let s = g.Self.Store.state c.args.self.now in
    IsPush-refused g.Self.Dest.shares s (c.args.key.now, c.args.bytes) _ tt (closed_check-held s.nodes c.args.key.now c.args.bytes (cc c.has.ensures))

pub returns-in_err-check-clause-pushed : goal.returns-in_err-check-clause-pushed
returns-in_err-check-clause-pushed g c =
    let s = g.Self.Store.state c.args.self.now in
    let did = c.in_err-check.ensures in
    let p = err_from_is_err_and c.from_residual.result c.from_residual.ensures.1 in
    rw (p.1, p.2)
    (IsPush-refused g.Self.Dest.shares s (c.args.key.now, c.args.bytes) _ did.checked.1 (Refused-closed s.nodes c.args.key.now c.args.bytes _ (cc c.has.ensures) did.checked.1 did.checked.0))
