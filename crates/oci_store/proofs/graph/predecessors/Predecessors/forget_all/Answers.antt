use Rattle.std.proofs.Common.{arith}
use Rattle.oci_store.proofs.Predecessors.{IsForgottenAt-more}
use Rattle.oci_store.proofs.graph.predecessors.Predecessors.forget_all.Goals as goal

pub loop-key-preserved : goal.loop-key-preserved
loop-key-preserved c =
    IsForgottenAt-more c.args.self.now.lists c.loop-key.self.lists c.forget.new.self.lists c.args.predecessor.now c.args.listed.now c.loop-key.key-index c.key-item.result (omega arith) c.key-item.is
    c.loop-key.invariant c.forget.ensures
