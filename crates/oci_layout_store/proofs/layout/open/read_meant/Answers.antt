use Rattle.std.proofs.lemmas.Result.{err_from_is_err_and}
use Rattle.oci_layout_store.proofs.layout.open.read_meant.Goals as goal

pub returns-in_err-content-clause-cause : goal.returns-in_err-content-clause-cause
returns-in_err-content-clause-cause g c =
    let p = err_from_is_err_and c.from_residual.result c.from_residual.ensures.1 in
    rw (p.1, p.2) c.in_err-content.ensures.cause
