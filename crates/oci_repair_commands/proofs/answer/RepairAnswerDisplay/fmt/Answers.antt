use Rattle.std.proofs.Common.{refl}
use Rattle.std.proofs.lemmas.Grind.{put_three}
use Rattle.oci_repair_commands.proofs.answer.RepairAnswerDisplay.fmt.Goals as goal

pub returns-clause-writes : goal.returns-clause-writes
returns-clause-writes g c plain ok =
    let repaired = rw c.deref.ensures.value at (c.in_ok-print_repaired.ensures plain refl) in
    let missing = rw c.deref-2.ensures.value at (c.in_ok-print_missing.ensures repaired.plain refl) in
    let counts = c.print_counts.ensures missing.plain ok in
    put_three g.W.Write.write_str_gives _ _ _ _ _ _ _ _ repaired missing counts refl
