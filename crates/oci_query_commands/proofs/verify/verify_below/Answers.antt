use Rattle.std.proofs.Common.{Some}
use Rattle.std.proofs.lemmas.Result.{IfOk-weaker}
use Rattle.oci_verify.specs.Corrupt.{is_asked}
use Rattle.oci_query_commands.proofs.verify.verify_below.Goals as goal

pub returns-clause-found : goal.returns-clause-found
returns-clause-found g c =
    IfOk-weaker c.findings_of.result _ _ (λ findings are. record {
      is_reached = is_asked (Some c.in_ok-reached.reached);
      reached = c.in_ok-reached.ensures;
      found = are;
    }) c.findings_of.ensures.found
