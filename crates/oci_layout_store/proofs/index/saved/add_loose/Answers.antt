use Rattle.std.proofs.Common.{None, map}
use Rattle.oci_manifest.specs.Descriptor.{Descriptor}
use Rattle.oci_layout_store.specs.Entries.{entry_of, new_entry}
use Rattle.oci_layout_store.proofs.SavedEntries.{entries-pushed}
use Rattle.oci_layout_store.proofs.index.saved.add_loose.Goals as goal

pub loop-key-preserved : goal.loop-key-preserved
loop-key-preserved c =
    entries-pushed (λ (k : Descriptor). new_entry k None) (map entry_of c.args.saved.now.items) c.loop-key.yielded c.in-Some.key c.loop-key.saved.items _ _ c.loop-key.invariant c.in_ok-push.ensures.items c.in_ok-new_entry.ensures
