use Rattle.std.proofs.Common.{take}
use Rattle.oci_store.specs.Keyed.{HasAll}
use Rattle.oci_layout_copy.proofs.goal.check_all_held.Given as goal

-- as far as the loop has come
abbrev pub invariant-loop-key : goal.invariant-loop-key
invariant-loop-key g l = HasAll l.layout.graph (take l.key-index l.keys)
