use Rattle.std.proofs.Common.{take}
use Rattle.oci_prune.specs.Belonging.{AreAttachedTo}
use Rattle.oci_prune.proofs.belonging.attached_to_any.Given as goal

-- as far as the loop has come
abbrev pub invariant-loop-subject : goal.invariant-loop-subject
invariant-loop-subject l = AreAttachedTo l.attachments l.members (take l.subject-index l.subjects) l.found
