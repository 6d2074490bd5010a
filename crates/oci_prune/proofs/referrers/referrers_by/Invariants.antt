use Rattle.std.proofs.Common.{take}
use Rattle.oci_prune.specs.Subjects.{HasPairs}
use Rattle.oci_prune.proofs.referrers.referrers_by.Given as goal

-- as far as the loop has come
abbrev pub invariant-loop-pair : goal.invariant-loop-pair
invariant-loop-pair l = HasPairs (take l.pair-index l.pairs) l.referrers
