use Rattle.std.proofs.Common.{take}
use Rattle.oci_store.proofs.Predecessors.{IsNotedAt}
use Rattle.oci_store.proofs.graph.predecessors.Predecessors.add_to_all.Given as goal

abbrev pub invariant-loop-key : goal.invariant-loop-key
invariant-loop-key l = IsNotedAt l.fn.self.lists l.self.lists l.predecessor (take l.key-index l.listed)
