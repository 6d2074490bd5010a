use Rattle.std.proofs.Common.{take}
use Rattle.oci_prune.specs.Subjects.{AreReferrers}
use Rattle.oci_prune.specs.Typed.{StatesBy}
use Rattle.oci_prune.proofs.referrers.referrers_of.Given as goal

-- as far as the loop has come
abbrev pub invariant-loop-key : goal.invariant-loop-key
invariant-loop-key g l = (g.S.Store.state l.source).is_honest → AreReferrers (StatesBy (g.S.Store.state l.source).entries l.filter) (take l.key-index l.keys) l.referrers
