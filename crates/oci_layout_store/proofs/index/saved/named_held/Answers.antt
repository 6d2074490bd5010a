use Rattle.oci_layout_store.proofs.SavedEntries.{named_held-more}
use Rattle.oci_layout_store.proofs.index.saved.named_held.Goals as goal

pub loop-entry-preserved : goal.loop-entry-preserved
loop-entry-preserved c =
    named_held-more c.args.graph.now c.args.entries.now c.loop-entry.entry-index c.entry-item.result c.loop-entry.keys.items _ c.loop-entry-test.true c.entry-item.is c.loop-entry.invariant c.in_ok-add_if_named.ensures
