use Rattle.std.proofs.lemmas.Result.{IfOk-weaker}
use Rattle.oci_query_commands.proofs.Below.{AreFindings-any}
use Rattle.oci_query_commands.proofs.verify.verify.Goals as goal

pub returns : goal.returns
returns g c =
    let layout = c.args.layout.now in
    IfOk-weaker c.findings_of.result _ _ (λ findings are. AreFindings-any (g.D.Dir.device layout.dir) layout.graph layout.opened findings are) c.findings_of.ensures.found
