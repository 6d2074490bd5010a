use Rattle.std.proofs.lemmas.Result.{on_ok_weaker}
use Rattle.oci_query_commands.proofs.query.print_predecessors.Goals as goal

pub returns-clause-printed : goal.returns-clause-printed
returns-clause-printed g c = λ lines.
    on_ok_weaker c.print_answer_of_all.result
    (λ appended. (c.in_ok-predecessors.predecessors.predecessors.items, c.in_ok-predecessors.ensures, appended))
    (c.print_answer_of_all.ensures.lines lines)
