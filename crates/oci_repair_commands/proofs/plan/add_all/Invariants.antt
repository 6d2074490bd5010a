use Rattle.std.proofs.Common.{◌≡◌, ◌++◌, take}
use Rattle.oci_repair_commands.proofs.plan.add_all.Given as goal

-- as far as the loop has come
abbrev pub invariant-loop-key : goal.invariant-loop-key
invariant-loop-key l = l.others.items ≡ l.initial.others.items ++ take l.key-index l.keys
