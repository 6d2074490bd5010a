use Rattle.std.proofs.Common.{take}
use Rattle.oci_prune.specs.Attached.{HasStems}
use Rattle.oci_prune.proofs.followers.stems_of.Given as goal

-- as far as the loop has come
abbrev pub invariant-loop-key : goal.invariant-loop-key
invariant-loop-key l = HasStems (take l.key-index l.keys) l.stems
