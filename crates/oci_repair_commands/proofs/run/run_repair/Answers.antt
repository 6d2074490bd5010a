use Rattle.oci_repair_commands.proofs.run.run_repair.Goals as goal

pub returns-then-words-clause-planned : goal.returns-then-words-clause-planned
returns-then-words-clause-planned g c = λ dry. (c.in_ok-layout.answer, c.in_ok-layout.ensures, c.in_ok-print_repair.ensures.outcome, c.in_ok-print_repair.ensures.lines)

pub returns-clause-repaired : goal.returns-clause-repaired
returns-clause-repaired g c = λ wet. (c.in_ok-layout-2.answer, c.in_ok-layout-2.ensures, c.in_ok-print_repair-2.ensures.outcome, c.in_ok-print_repair-2.ensures.lines)
