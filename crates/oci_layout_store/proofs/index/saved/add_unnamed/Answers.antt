use Rattle.std.proofs.Common.{◌≡◌, ◌++◌, List, map, subst}
use Rattle.std.proofs.lemmas.List.{take_all}
use Rattle.oci_layout_store.specs.declared.index.IndexEntry.{IndexEntry}
use Rattle.oci_layout_store.specs.Entries.{entry_of}
use Rattle.oci_layout_store.specs.Saved.{unnamed_held}
use Rattle.oci_layout_store.proofs.SavedEntries.{unnamed_held-more}
use Rattle.oci_layout_store.proofs.index.saved.add_unnamed.Goals as goal

pub loop-entry-preserved : goal.loop-entry-preserved
loop-entry-preserved c =
    unnamed_held-more c.args.graph.now c.args.entries.now c.loop-entry.entry-index c.entry-item.result (map entry_of c.args.saved.now.items) (map entry_of c.loop-entry.saved.items) (map entry_of c.push_if.new.entries.items)
    c.loop-entry-test.true c.entry-item.is c.loop-entry.invariant (rw c.is_unnamed_held.ensures at c.in_ok-push_if.ensures)

pub returns : goal.returns
returns c =
    subst (λ (entries : List IndexEntry). map entry_of c.loop-entry.saved.items ≡ map entry_of c.args.saved.now.items ++ unnamed_held c.args.graph.now (map entry_of entries))
    (take_all c.loop-entry.entry-index c.args.entries.now c.loop-entry-test.false) c.loop-entry.invariant
