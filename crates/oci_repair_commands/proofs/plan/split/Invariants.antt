use Rattle.std.proofs.Common.{take}
use Rattle.oci_repair_commands.specs.Repaired.{IsSplit}
use Rattle.oci_repair_commands.proofs.plan.split.Given as goal

-- as far as the loop has come
abbrev pub invariant-loop-key : goal.invariant-loop-key
invariant-loop-key g l = IsSplit (take l.key-index l.all) l.mends.items l.blocked.items
