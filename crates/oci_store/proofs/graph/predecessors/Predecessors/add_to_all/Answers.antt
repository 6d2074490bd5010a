use Rattle.std.proofs.Common.{◌∙◌}
use Rattle.oci_store.proofs.Predecessors.{IsNotedAt-more, taken_back}
use Rattle.oci_store.proofs.graph.predecessors.Predecessors.add_to_all.Goals as goal

pub returns-in-Err-clause-refused : goal.returns-in-Err-clause-refused
returns-in-Err-clause-refused c =
    taken_back c.args.self.now.lists c.add_to.new.self.lists c.forget_all.new.self.lists c.args.predecessor.now c.args.listed.now c.loop-key.key-index c.requires
    (λ other key. c.in-Err.ensures.refused other key ∙ c.loop-key.invariant other key) c.forget_all.ensures

pub loop-key-preserved : goal.loop-key-preserved
loop-key-preserved c =
    IsNotedAt-more c.args.self.now.lists c.loop-key.self.lists c.add_to.new.self.lists c.args.predecessor.now c.args.listed.now c.loop-key.key-index c.key-item.result c.loop-key-test.true c.key-item.is
    c.loop-key.invariant c.in_default.ensures.noted
