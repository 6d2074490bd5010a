use Rattle.std.proofs.Common.{take}
use Rattle.oci_prune.proofs.Arriving.{Adds}
use Rattle.oci_prune.proofs.after.add_keys.Given as goal

-- as far as the loop has come
abbrev pub invariant-loop-key : goal.invariant-loop-key
invariant-loop-key l = Adds (take l.key-index l.keys) l.initial.set l.set
