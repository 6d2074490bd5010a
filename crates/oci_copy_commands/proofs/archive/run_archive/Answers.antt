use Rattle.oci_copy_commands.proofs.Archived.{no_files}
use Rattle.oci_copy_commands.proofs.archive.run_archive.Goals as goal

pub returns-clause-archived : goal.returns-clause-archived
returns-clause-archived g c = λ wet. (c.in_ok-answer.answer, c.in_ok-answer.ensures, c.in_ok-outcome.ensures.lines)

pub returns-then-words-clause-planned : goal.returns-then-words-clause-planned
returns-then-words-clause-planned g c = λ dry. (let shown = c.in_ok-show_plan.ensures in (shown.0, c.new-empty.result, no_files c.new-empty.result c.new-empty.ensures.empty, shown.1, shown.2))
