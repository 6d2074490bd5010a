use Rattle.std.proofs.Common.{take}
use Rattle.oci_prune.specs.Free.{AreUnlisted}
use Rattle.oci_prune.proofs.free.unlisted_keys.Given as goal

-- as far as the loop has come
abbrev pub invariant-loop-key : goal.invariant-loop-key
invariant-loop-key g l = AreUnlisted (g.S.Store.state l.source).nodes l.attachments (take l.key-index l.keys) l.found
