use Rattle.oci_export.proofs.Outlines.{IsOutlineOf-next}
use Rattle.oci_export.proofs.outlining.graph_of.Goals as goal

pub loop-key-preserved : goal.loop-key-preserved
loop-key-preserved g c =
    let source = g.S.Store.state c.args.source.now in
    IsOutlineOf-next source c.args.keys.now c.loop-key.key-index c.key-item.result c.loop-key.graph c.hold.new.graph
    c.loop-key-test.true c.key-item.is c.loop-key.invariant c.in_ok-hold.ensures.held
