use Rattle.std.proofs.Common.{map}
use Rattle.std.specs.BTreeSet.{contains}
use Rattle.std.proofs.lemmas.Result.{IfOk-weaker}
use Rattle.oci_manifest.specs.Descriptor.{key_cmp}
use Rattle.oci_layout_store.specs.Entries.{entry_of}
use Rattle.oci_layout_store.proofs.SavedEntries.{shadowed-same}
use Rattle.oci_layout_store.proofs.index.saved.shadowed_keys.Goals as goal

pub returns : goal.returns
returns c =
    IfOk-weaker c.named_held.result _ _
    (λ keys held. shadowed-same (contains key_cmp c.in_ok-absent.absent) c.args.absent.now c.args.graph.now c.args.tags.now (map entry_of c.args.entries.now) (map entry_of c.in_ok-first.first.items) keys.items c.in_ok-absent.ensures c.in_ok-first.ensures held)
    (rw c.deref.ensures.value at c.named_held.ensures)
