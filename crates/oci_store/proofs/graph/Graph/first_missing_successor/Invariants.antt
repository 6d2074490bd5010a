use Rattle.std.proofs.Common.{◌≡◌, drop}
use Rattle.oci_store.specs.Closed.{missing_successor_in, first_missing_successor}
use Rattle.oci_store.proofs.graph.Graph.first_missing_successor.Given as goal

-- the nodes that are passed lack nothing
abbrev pub invariant-loop-node : goal.invariant-loop-node
invariant-loop-node l = missing_successor_in l.self (drop l.node-index l.self) ≡ first_missing_successor l.self
