use Rattle.oci_copy_commands.proofs.Archived.{no_files}
use Rattle.oci_copy_commands.proofs.archive.run_archive_to_output.Goals as goal

pub returns-clause-archived : goal.returns-clause-archived
returns-clause-archived g c = λ wet. (let written = c.in_ok-answer.ensures in (c.in_ok-answer.answer, written.0, written.1, written.2))

pub returns-then-words-clause-planned : goal.returns-then-words-clause-planned
returns-then-words-clause-planned g c = λ dry. (let shown = c.in_ok-show_plan.ensures in (shown.0, c.new-empty.result, no_files c.new-empty.result c.new-empty.ensures.empty, shown.1, shown.2))
