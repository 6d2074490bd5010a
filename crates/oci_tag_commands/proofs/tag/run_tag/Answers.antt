use Rattle.oci_tag_commands.proofs.tag.run_tag.Goals as goal

pub returns-clause-tagged : goal.returns-clause-tagged
returns-clause-tagged g c = (c.in_ok-tagged.tagged.descriptor, c.in_ok-tagged.ensures.tagged, c.in_ok-print_answer.ensures.lines)
