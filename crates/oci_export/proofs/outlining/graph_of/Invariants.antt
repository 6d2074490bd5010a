use Rattle.std.proofs.Common.{take}
use Rattle.oci_export.proofs.Outlines.{IsOutlineOf}
use Rattle.oci_export.proofs.outlining.graph_of.Given as goal

-- the graph has the keys so far
abbrev pub invariant-loop-key : goal.invariant-loop-key
invariant-loop-key g l = IsOutlineOf (g.S.Store.state l.source) l.keys (take l.key-index l.keys) l.graph
