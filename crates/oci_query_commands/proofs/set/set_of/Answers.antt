use Rattle.oci_layout_store.proofs.SavedEntries.{HasAmong-more}
use Rattle.oci_query_commands.proofs.set.set_of.Goals as goal

pub loop-key-preserved : goal.loop-key-preserved
loop-key-preserved c =
    HasAmong-more c.loop-key.set c.insert.new.self c.args.keys.now c.loop-key.key-index c.key-item.result _ c.loop-key-test.true c.key-item.is c.in_ok-try_clone.ensures c.loop-key.invariant c.in_ok-insert.ensures.updates.0
