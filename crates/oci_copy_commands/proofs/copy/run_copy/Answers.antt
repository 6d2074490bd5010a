use Rattle.oci_copy_commands.proofs.copy.run_copy.Goals as goal

pub returns-clause-copied : goal.returns-clause-copied
returns-clause-copied g c = λ wet. (c.in_ok-answer.answer, c.in_ok-answer.ensures c.in_ok-outcome.ensures.whole, c.in_ok-outcome.ensures.lines)
