use Rattle.std.proofs.Common.{◌++◌, map, take, sym, ap, ◌∙◌, append_assoc}
use Rattle.oci_store.specs.Tags.{Tags, by_bytes}
use Rattle.oci_layout_store.specs.Entries.{entry_of}
use Rattle.oci_prune.specs.Orphans.{named_pair, named_pairs}
use Rattle.oci_prune.proofs.Orphaning.{next_pair}
use Rattle.oci_prune.proofs.orphans.add_entries.Goals as goal

pub loop-entry-preserved : goal.loop-entry-preserved
loop-entry-preserved c =
    let e = c.entry-item.result in
    let i = c.loop-entry.entry-index in
    let before = by_bytes c.args.named.now.items in
    c.in_ok-add_entry.ensures ∙ ap (λ (ts : Tags). ts ++ named_pair (entry_of e)) c.loop-entry.invariant
    ∙ append_assoc before (named_pairs (map entry_of (take i c.args.entries.now))) (named_pair (entry_of e))
    ∙ ap (λ (ts : Tags). before ++ ts) (sym (next_pair c.args.entries.now i e c.loop-entry-test.true c.entry-item.is))
