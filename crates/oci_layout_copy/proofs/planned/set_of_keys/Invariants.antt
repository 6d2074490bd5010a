use Rattle.std.proofs.Common.{take}
use Rattle.oci_layout_copy.specs.PlannedMirror.{HasKeys}
use Rattle.oci_layout_copy.proofs.planned.set_of_keys.Given as goal

-- as far as the loop has come
abbrev pub invariant-loop-key : goal.invariant-loop-key
invariant-loop-key l = HasKeys l.set (take l.key-index l.keys)
