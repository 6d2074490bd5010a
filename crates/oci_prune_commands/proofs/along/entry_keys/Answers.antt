use Rattle.std.proofs.Common.{◌∙◌, List, [], ◌∷◌, ◌++◌, sym, ap}
use Rattle.oci_manifest.specs.Descriptor.{Descriptor}
use Rattle.oci_layout_store.specs.Entries.{entry_keys, entry_of}
use Rattle.oci_layout_store.proofs.Opened.{next_keys}
use Rattle.oci_prune_commands.proofs.along.entry_keys.Goals as goal

pub loop-entry-preserved : goal.loop-entry-preserved
loop-entry-preserved c =
    let e = c.entry-item.result in
    c.in_ok-add_key.ensures ∙ ap (λ (ks : List Descriptor). ks ++ entry_keys (entry_of e ∷ [])) c.loop-entry.invariant
    ∙ sym (next_keys c.args.entries.now c.loop-entry.entry-index e c.loop-entry-test.true c.entry-item.is)
