use Rattle.std.proofs.Common.{take}
use Rattle.oci_layout_store.proofs.SavedEntries.{HasAmong}
use Rattle.oci_repair_commands.proofs.plan.in_order.Given as goal

-- as far as the loop has come
abbrev pub invariant-loop-key : goal.invariant-loop-key
invariant-loop-key l = HasAmong l.set (take l.key-index l.keys)
