use Rattle.std.proofs.Common.{◌≡◌, take}
use Rattle.oci_repair.proofs.Mended.{firsts}
use Rattle.oci_repair_commands.proofs.plan.keys_of.Given as goal

-- as far as the loop has come
abbrev pub invariant-loop-key : goal.invariant-loop-key
invariant-loop-key l = l.keys.items ≡ firsts (take l.key-index l.mends)
