use Rattle.std.proofs.Common.{inl, inr}
use Rattle.std.proofs.lemmas.Result.{on_ok_weaker, IfErr-weaker}
use Rattle.oci_layout_store.specs.Blobs.{blob_path, IsNotOf}
use Rattle.oci_query_commands.proofs.Written.{IsBlobFault-read, IsWriteFault-output, Keeps-same}
use Rattle.oci_query_commands.proofs.cat.write_whole.Goals as goal

pub fault_of-requires : goal.fault_of-requires
fault_of-requires g c =
    let layout = c.args.layout.now in
    let dir = g.D.Dir.device layout.dir in
    let k = c.args.key.now in
    IsBlobFault-read dir layout.graph k (IsNotOf k (dir.file (blob_path k.digest))) c.in-Err.fault (λ not_of. not_of) c.in-Err.ensures.cause

pub returns-in-Ok-clause-written : goal.returns-in-Ok-clause-written
returns-in-Ok-clause-written g c =
    on_ok_weaker c.write_bytes.result
    (λ appended. (c.in-Ok.content, c.in-Ok.ensures.matching, rw c.as_slice.ensures at appended))
    c.write_bytes.ensures.written

pub returns-in-Ok-clause-unwritten : goal.returns-in-Ok-clause-unwritten
returns-in-Ok-clause-unwritten g c = IfErr-weaker c.write_bytes.result _ _ (λ e is. inr (inl is)) c.write_bytes.ensures.refused

pub returns-in-Ok-clause-refused : goal.returns-in-Ok-clause-refused
returns-in-Ok-clause-refused g c =
    let layout = c.args.layout.now in
    IfErr-weaker c.write_bytes.result _ _ (IsWriteFault-output (g.D.Dir.device layout.dir) layout.graph c.args.key.now) c.write_bytes.ensures.refused

pub returns-in-Err-clause-unwritten : goal.returns-in-Err-clause-unwritten
returns-in-Err-clause-unwritten g c = inl (Keeps-same (g.W.Write.contents c.args.out.now))
