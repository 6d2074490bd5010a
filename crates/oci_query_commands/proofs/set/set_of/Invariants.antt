use Rattle.std.proofs.Common.{take}
use Rattle.oci_layout_store.proofs.SavedEntries.{HasAmong}
use Rattle.oci_query_commands.proofs.set.set_of.Given as goal

-- as far as the loop has come
abbrev pub invariant-loop-key : goal.invariant-loop-key
invariant-loop-key l = HasAmong l.set (take l.key-index l.keys)
