use Rattle.std.proofs.Common.{take}
use Rattle.oci_prune.specs.Aside.{AreListedAside}
use Rattle.oci_prune.proofs.aside.undistributed_by_any.Given as goal

-- as far as the loop has come
abbrev pub invariant-loop-key : goal.invariant-loop-key
invariant-loop-key g l = (g.S.Store.state l.source).is_honest → AreListedAside (g.S.Store.state l.source).entries (take l.key-index l.keys) l.listed.items
