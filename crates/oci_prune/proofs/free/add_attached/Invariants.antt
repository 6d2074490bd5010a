use Rattle.std.proofs.Common.{◌≡◌, ◌++◌, take}
use Rattle.std.specs.Prelude.{flat_map}
use Rattle.oci_prune.specs.Attached.{attached_in}
use Rattle.oci_prune.proofs.free.add_attached.Given as goal

-- as far as the loop has come
abbrev pub invariant-loop-subject : goal.invariant-loop-subject
invariant-loop-subject l = l.keys.items ≡ l.fn.keys.items ++ flat_map (attached_in l.attachments) (take l.subject-index l.subjects)
