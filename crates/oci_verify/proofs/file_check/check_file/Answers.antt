use Rattle.std.proofs.lemmas.Result.{err_from_is_err_and}
use Rattle.oci_layout_store.specs.Blobs.{blob_path, IsNotOf}
use Rattle.oci_verify.proofs.Intact.{as_read, matching-read, matching-wrong, read_fault}
use Rattle.oci_verify.proofs.file_check.check_file.Goals as goal

pub returns-in_err-content-clause-corrupt : goal.returns-in_err-content-clause-corrupt
returns-in_err-content-clause-corrupt g c =
    let p = err_from_is_err_and c.from_residual.result c.from_residual.ensures.1 in
    rw (p.1, p.2) (λ corrupt. matching-wrong (g.D.Dir.device c.args.layout.now.dir) c.args.key.now (c.in_err-content.ensures.cause.corrupt (as_read c.in_err-content.field-0.0 corrupt)))

pub returns-clause-right : goal.returns-clause-right
returns-clause-right g c =
    let layout = c.args.layout.now in
    matching-read (g.D.Dir.device layout.dir) layout.graph c.args.key.now c.in_ok-content.content c.in_ok-content.ensures.matching c.in_ok-content.ensures.honest

pub returns-in_err-content-clause-cause : goal.returns-in_err-content-clause-cause
returns-in_err-content-clause-cause g c =
    let p = err_from_is_err_and c.from_residual.result c.from_residual.ensures.1 in
    let dir = g.D.Dir.device c.args.layout.now.dir in
    let k = c.args.key.now in
    rw (p.1, p.2) (read_fault dir c.args.layout.now.graph k (IsNotOf k (dir.file (blob_path k.digest))) c.in_err-content.field-0.0 c.in_err-content.ensures.cause)
