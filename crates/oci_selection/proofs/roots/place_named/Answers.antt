use Rattle.std.proofs.Common.{[], ◌∷◌, sym, ap, ◌∙◌}
use Rattle.oci_store.specs.Visiting.{with_keys}
use Rattle.oci_store.proofs.Membership.{Keys}
use Rattle.oci_layout_store.specs.Entries.{entry_keys, entry_of}
use Rattle.oci_selection.proofs.Selections.{placed_next}
use Rattle.oci_selection.proofs.roots.place_named.Goals as goal

pub loop-entry-preserved : goal.loop-entry-preserved
loop-entry-preserved c =
    let e = c.entry-item.result in
    c.in_ok-place_entry.ensures ∙ ap (λ (ks : Keys). with_keys ks (entry_keys (entry_of e ∷ []))) c.loop-entry.invariant
    ∙ sym (placed_next c.args.keys.now c.args.entries.now c.loop-entry.entry-index e c.loop-entry-test.true c.entry-item.is)
