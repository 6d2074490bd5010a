use Rattle.std.proofs.Common.{sym, ap, ◌∙◌}
use Rattle.std.specs.Option.{option_copied}
use Rattle.std.proofs.lemmas.Result.{err_from_is_err_and}
use Rattle.oci_verify.proofs.Intact.{held_fault}
use Rattle.oci_verify.proofs.job.FileCheckJob.run.Goals as goal

pub returns-in_err-is_corrupt-clause-fault : goal.returns-in_err-is_corrupt-clause-fault
returns-in_err-is_corrupt-clause-fault g c =
    let layout = c.args.self.now.layout.now in
    let p = err_from_is_err_and c.from_residual.result c.from_residual.ensures.1 in
    rw (p.1, p.2) (held_fault (g.D.Dir.device layout.dir) layout.graph c.args.number c.in-Some.key.now c.in_err-is_corrupt.field-0.0 (sym c.key.ensures ∙ ap option_copied c.in-Some.is) c.in_err-is_corrupt.ensures.cause)
