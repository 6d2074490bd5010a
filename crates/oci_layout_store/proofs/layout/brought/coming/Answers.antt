use Rattle.std.proofs.Common.{◌∙◌, map}
use Rattle.std.specs.BTreeSet.{contains}
use Rattle.std.specs.Map.{values_of}
use Rattle.oci_manifest.specs.Descriptor.{key_cmp}
use Rattle.oci_store.specs.Tags.{by_bytes}
use Rattle.oci_layout_store.specs.Brought.{comes}
use Rattle.oci_layout_store.specs.Entries.{entry_of}
use Rattle.oci_layout_store.proofs.Brought.{all_found, coming_by}
use Rattle.oci_layout_store.proofs.layout.brought.coming.Goals as goal

pub returns : goal.returns
returns c =
    let tagged = c.in_ok-tagged.tagged in
    let unnamed = c.in_ok-unnamed.unnamed in
    all_found (comes (contains key_cmp tagged) (contains key_cmp unnamed)) c.args.entries.now c.loop-entry.entry-index (map entry_of c.loop-entry.more.items) _ c.loop-entry-test.false c.loop-entry.invariant
    ∙ coming_by tagged unnamed (values_of (by_bytes c.args.tags.now)) (map entry_of c.args.old.now) (map entry_of c.args.entries.now) c.in_ok-tagged.ensures c.in_ok-unnamed.ensures
