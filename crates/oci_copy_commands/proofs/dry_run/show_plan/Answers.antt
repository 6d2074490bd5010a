use Rattle.oci_copy_commands.proofs.Runs.{with_lines}
use Rattle.oci_copy_commands.proofs.dry_run.show_plan.Goals as goal

pub returns : goal.returns
returns g c =
    let opened = c.in_ok-source.ensures in
    with_lines c.print_answer.result
    (λ lines. (
      c.in_ok-answer.answer,
      record {
        planned = (c.in_ok-plan.plan, c.in_ok-plan.clean_up);
        run = record {
          source = c.in_ok-source.source;
          selected = c.in_ok-selected.selected;
          chosen = record {
            opened = record { same = opened.same; opened = opened.opened };
            selects = c.in_ok-selected.ensures.selects;
            whole = rw c.is_exact.ensures at c.in_ok-check_source_if.ensures;
          };
          indexed = c.in_ok-check_index_if.ensures.indexed;
          planned_is = c.in_ok-plan.ensures;
        };
        answers = c.in_ok-answer.ensures;
      },
      lines,
    ))
    c.print_answer.ensures.lines
