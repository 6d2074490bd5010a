use Rattle.std.proofs.Common.{◌≡◌, ◌++◌, List, map, not, subst}
use Rattle.oci_layout_store.specs.Entries.{entry_of, text_of}
use Rattle.oci_layout_store.specs.Saved.{is_place, last_place}
use Rattle.oci_layout_store.specs.declared.index.IndexEntry.{IndexEntry as CodeEntry}
use Rattle.oci_query_commands.specs.Found.{tagged_if, tagged_of}
use Rattle.oci_query_commands.proofs.Found.{next_shadowed}
use Rattle.oci_query_commands.proofs.verify.shadowed_entries.Goals as goal

pub loop-place-preserved : goal.loop-place-preserved
loop-place-preserved c =
    let entry = c.index-entries-place.result in
    let old = map tagged_of c.loop-place.shadowed.items in
    let new = map tagged_of c.add_unless_last.new.shadowed.items in
    let grown = subst (λ (es : List CodeEntry). new ≡ old ++ tagged_if (λ name. not (is_place c.loop-place.place (last_place name (map entry_of es)))) entry.key (text_of entry.name)) c.in_ok-names.ensures c.in_ok-add_unless_last.ensures in
    next_shadowed old new c.args.entries.now c.loop-place.place entry c.loop-place-test.true c.index-entries-place.is grown c.loop-place.invariant
