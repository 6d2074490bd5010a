use Rattle.std.proofs.Common.{◌∙◌, List, ◌++◌, sym, ap}
use Rattle.oci_manifest.specs.Descriptor.{Descriptor}
use Rattle.oci_layout_store.specs.Entries.{entry_of}
use Rattle.oci_prune_commands.specs.Untagged.{belonged_of}
use Rattle.oci_prune_commands.proofs.Untagging.{next_belonged}
use Rattle.oci_prune_commands.proofs.along.belonged_keys.Goals as goal

pub loop-entry-preserved : goal.loop-entry-preserved
loop-entry-preserved g c =
    let e = c.entry-item.result in
    let f = belonged_of c.args.name.now c.args.kept.now c.args.layout.now.graph in
    c.in_ok-add_belonged.ensures ∙ ap (λ (ks : List Descriptor). ks ++ f (entry_of e)) c.loop-entry.invariant
    ∙ sym (next_belonged f c.entries-entries.result.now c.loop-entry.entry-index e c.loop-entry-test.true c.entry-item.is)
