use Rattle.std.proofs.Common.{◌≡◌, take}
use Rattle.oci_store.proofs.graph.Graph.try_clone.Given as goal

abbrev pub invariant-loop-node : goal.invariant-loop-node
invariant-loop-node l = l.graph ≡ take l.node-index l.self
