use Rattle.oci_copy_commands.proofs.behind.attached_unless_asked.Goals as goal

pub returns-in-None-clause-attached : goal.returns-in-None-clause-attached
returns-in-None-clause-attached g c = λ none. rw c.roots.ensures at c.attached_left.ensures.left
