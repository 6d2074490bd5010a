use Rattle.oci_prune_commands.proofs.untag.run_untag.Goals as goal

pub returns-clause-untagged : goal.returns-clause-untagged
returns-clause-untagged g c =
    let answer = c.in_ok-untagged.untagged in
    (answer.descriptor, answer.descriptors.items, answer.belonged.items, c.in_ok-untagged.ensures.untagged, c.in_ok-print_answer.ensures.lines)
