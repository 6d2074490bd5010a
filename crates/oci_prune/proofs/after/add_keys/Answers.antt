use Rattle.oci_prune.proofs.Arriving.{adds_more}
use Rattle.oci_prune.proofs.after.add_keys.Goals as goal

pub loop-key-preserved : goal.loop-key-preserved
loop-key-preserved c =
    adds_more c.args.keys.now c.loop-key.key-index c.key-item.result c.in_ok-try_clone.field-0 c.args.set.now c.loop-key.set c.insert.new.self c.loop-key-test.true c.key-item.is c.in_ok-try_clone.ensures c.loop-key.invariant
    c.in_ok-insert.ensures.updates.0
