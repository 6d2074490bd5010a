use Rattle.std.proofs.Common.{subst, map, ap, ◌∙◌}
use Rattle.std.specs.BTreeSet.{contains}
use Rattle.oci_manifest.specs.Descriptor.{key_cmp}
use Rattle.oci_store.specs.Tags.{Tags, by_bytes}
use Rattle.oci_layout_store.specs.Entries.{entry_of}
use Rattle.oci_layout_store.specs.Saved.{AreLoose}
use Rattle.oci_layout_store.proofs.SavedEntries.{saved-all}
use Rattle.oci_layout_store.proofs.index.saved.saved_entries.Goals as goal

pub returns : goal.returns
returns c =
    let entries = map entry_of c.args.entries.now in
    let graph = c.args.graph.now in
    let tagged = c.in_ok-tagged.tagged.items in
    let loose = c.in_ok-loose.loose.items in (
      loose,
      subst (λ (tags : Tags). AreLoose graph tags entries loose) (ap by_bytes c.deref.ensures.value ∙ c.in_ok-tagged.ensures.exact) c.in_ok-loose.ensures,
      saved-all (contains key_cmp c.in_ok-absent.absent) c.args.absent.now graph c.args.tags.now (by_bytes tagged) entries (map entry_of c.in_ok-names.names) loose (map entry_of c.in_ok-saved.saved.items)
          (map entry_of c.add_tags.new.saved.items) (map entry_of c.add_unnamed.new.saved.items) (map entry_of c.add_loose.new.saved.items) c.in_ok-absent.ensures c.in_ok-tagged.ensures.exact (ap (map entry_of) c.in_ok-names.ensures) c.in_ok-saved.ensures
          c.in_ok-add_tags.ensures c.in_ok-add_unnamed.ensures c.in_ok-add_loose.ensures,
    )
