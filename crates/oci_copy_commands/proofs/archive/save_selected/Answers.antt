use Rattle.std.proofs.Common.{◌∙◌}
use Rattle.std.specs.Map.{values_of}
use Rattle.oci_layout_store.specs.Index.{index_file}
use Rattle.oci_dir.specs.Memory.{device_of}
use Rattle.oci_layout_store.proofs.Files.{index_layout, HasLayoutFile-stays}
use Rattle.oci_selection.proofs.Selections.{among_held}
use Rattle.oci_copy_commands.proofs.archive.save_selected.Goals as goal

pub tag_all-requires-clause-held : goal.tag_all-requires-clause-held
tag_all-requires-clause-held c =
    let selected = c.args.selected.now in
    rw c.tags.ensures.tags (among_held c.args.layout.now.graph selected.0 (values_of selected.1) c.requires.held c.tags.ensures.of_roots.rooted)

pub returns-in-Ok : goal.returns-in-Ok
returns-in-Ok c =
    let kept = c.save.ensures.only.memory in
    let dir = c.bring.ensures.only.dir ∙ c.tag_all.ensures.dir in
    record {
      saved = record {
        of_roots = c.tags.ensures.of_roots;
        graph = kept.graph ∙ c.bring.ensures.only.graph ∙ c.tag_all.ensures.graph;
        tagged = kept.tags ∙ c.bring.ensures.only.tags ∙ (rw c.tags.ensures.tags at c.in_default.ensures.tagged);
        brought = rw (kept.opened, kept.tags, c.bring.ensures.only.tags)
            (rw (c.entries.ensures.entries, c.tag_all.ensures.opened) at c.in_ok-bring.ensures.brought);
        saved = λ honest. rw (kept.graph, kept.tags, kept.opened) (c.in-Ok.ensures.saved tt);
        version = λ honest there. HasLayoutFile-stays (device_of c.args.layout.now.dir).file (device_of c.save.new.self.dir).file index_file
            (rw dir at (c.save.ensures.other tt)) index_layout there;
      };
    }
