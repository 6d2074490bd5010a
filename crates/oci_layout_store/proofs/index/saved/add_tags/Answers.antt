use Rattle.std.proofs.Common.{◌++◌, map, string_bytes, sym, ap, ◌∙◌}
use Rattle.oci_store.specs.Tags.{Tags, by_bytes}
use Rattle.oci_layout_store.specs.Entries.{entry_of}
use Rattle.oci_layout_store.specs.Saved.{tag_entry}
use Rattle.oci_layout_store.proofs.SavedEntries.{by_bytes-more, entries-pushed}
use Rattle.oci_layout_store.proofs.index.saved.add_tags.Goals as goal

pub loop-name-preserved : goal.loop-name-preserved
loop-name-preserved c =
    let first = map entry_of c.args.saved.now.items in
    let entry = tag_entry (map entry_of c.args.names.now) in
    let before = c.loop-name.yielded in
    let name = c.in-Some.name in
    let key = c.in-Some.key in
    entries-pushed entry first (by_bytes before) (string_bytes name, key) c.loop-name.saved.items _ _ c.loop-name.invariant c.in_ok-push.ensures.items c.in_ok-entry_of_tag.ensures
    ∙ ap (λ (tags : Tags). first ++ map entry tags) (sym (by_bytes-more before (name, key)))
