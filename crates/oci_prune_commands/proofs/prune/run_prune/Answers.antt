use Rattle.oci_prune_commands.proofs.prune.run_prune.Goals as goal

pub returns-then-words-clause-planned : goal.returns-then-words-clause-planned
returns-then-words-clause-planned g c dry = (c.in_ok-planned.planned, c.in_ok-planned.ensures, c.in_ok-print_answer.ensures.lines)

pub returns-clause-pruned : goal.returns-clause-pruned
returns-clause-pruned g c wet = (c.in_ok-answer.answer, c.in_ok-answer.ensures c.in_ok-print_answer_with_fault.ensures.whole, c.in_ok-print_answer_with_fault.ensures.lines)
