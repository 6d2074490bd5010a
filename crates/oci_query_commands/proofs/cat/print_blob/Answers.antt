use Rattle.std.proofs.Common.{inl, inr}
use Rattle.std.proofs.lemmas.Result.{err_from_is_err_and}
use Rattle.oci_query_commands.proofs.Written.{Keeps-same}
use Rattle.oci_query_commands.proofs.cat.print_blob.Goals as goal

pub returns-in_err-key-clause-unwritten : goal.returns-in_err-key-clause-unwritten
returns-in_err-key-clause-unwritten g c =
    let p = err_from_is_err_and c.from_residual.result c.from_residual.ensures.1 in
    rw (p.1, p.2) (inl (Keeps-same (g.W.Write.contents c.args.out.now)))

pub returns-in_err-key-clause-refused : goal.returns-in_err-key-clause-refused
returns-in_err-key-clause-refused g c =
    let p = err_from_is_err_and c.from_residual.result c.from_residual.ensures.1 in
    rw (p.1, p.2) (inl c.in_err-key.ensures.refused)

pub returns-in_err-write_blob-clause-unwritten : goal.returns-in_err-write_blob-clause-unwritten
returns-in_err-write_blob-clause-unwritten g c =
    let p = err_from_is_err_and c.from_residual-in_err-write_blob.result c.from_residual-in_err-write_blob.ensures.1 in
    rw (p.1, p.2) (inr (c.in_ok-key.key, c.in_ok-key.ensures.named, c.in_err-write_blob.ensures.unwritten))

pub returns-in_err-write_blob-clause-refused : goal.returns-in_err-write_blob-clause-refused
returns-in_err-write_blob-clause-refused g c =
    let p = err_from_is_err_and c.from_residual-in_err-write_blob.result c.from_residual-in_err-write_blob.ensures.1 in
    rw (p.1, p.2) (inr (c.in_ok-key.key, c.in_ok-key.ensures.named, c.in_err-write_blob.ensures.refused))

pub returns-clause-written : goal.returns-clause-written
returns-clause-written g c = (c.in_ok-key.key, c.in_ok-key.ensures.named, c.in_ok-write_blob.ensures.written)
