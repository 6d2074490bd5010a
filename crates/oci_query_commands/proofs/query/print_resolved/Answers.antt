use Rattle.std.proofs.lemmas.Result.{on_ok_weaker}
use Rattle.oci_query_commands.proofs.query.print_resolved.Goals as goal

pub returns : goal.returns
returns g c = λ lines.
    on_ok_weaker c.print_answer.result
    (λ appended. (c.in_ok-resolved.resolved.descriptor, c.in_ok-resolved.ensures.named, appended))
    (c.print_answer.ensures.lines lines)
