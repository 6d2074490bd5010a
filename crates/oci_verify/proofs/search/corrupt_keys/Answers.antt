use Rattle.std.proofs.lemmas.Result.{IfOk-weaker}
use Rattle.oci_verify.proofs.Corrupt.{AreCorrupt-any}
use Rattle.oci_verify.proofs.search.corrupt_keys.Goals as goal

pub returns-clause-corrupt : goal.returns-clause-corrupt
returns-clause-corrupt g c =
    let layout = c.args.layout.now in
    IfOk-weaker c.corrupt_keys_among.result _ _
    (λ keys are has. AreCorrupt-any (g.D.Dir.device layout.dir).file layout.graph layout.opened.damaged keys.items (are has))
    c.corrupt_keys_among.ensures.corrupt
