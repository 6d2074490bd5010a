use Rattle.std.proofs.Common.{take}
use Rattle.oci_prune.specs.Files.{AreNeeded}
use Rattle.oci_prune.proofs.files.needed_keys.Given as goal

-- as far as the loop has come
abbrev pub invariant-loop-key : goal.invariant-loop-key
invariant-loop-key g l = (g.S.Store.state l.source).is_honest → AreNeeded (g.S.Store.state l.source).nodes (g.S.Store.state l.source).entries (take l.key-index l.keys) l.needed.items
