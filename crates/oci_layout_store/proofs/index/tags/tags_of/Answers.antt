use Rattle.std.proofs.Common.{List, [], map, take, sym, ap, ◌∙◌}
use Rattle.oci_store.specs.Tags.{Tags}
use Rattle.oci_layout_store.specs.Entries.{IndexEntry, entry_of, named, tag_with}
use Rattle.oci_layout_store.proofs.Opened.{named-more, next_entry}
use Rattle.oci_layout_store.proofs.index.tags.tags_of.Goals as goal

pub loop-entry-preserved : goal.loop-entry-preserved
loop-entry-preserved c =
    let graph = c.args.graph.now in
    let entries = c.args.entries.now in
    let i = c.loop-entry.entry-index in
    let e = c.entry-item.result in (
      c.in_ok-tag_entry.ensures.set ∙ ap (λ (tags : Tags). tag_with graph (entry_of e) tags) c.loop-entry.invariant.0
          ∙ sym (named-more graph (map entry_of (take i entries)) (entry_of e) [])
          ∙ ap (λ (es : List IndexEntry). named graph es []) (sym (next_entry entries i e c.loop-entry-test.true c.entry-item.is)),
      c.in_ok-tag_entry.ensures.names,
    )
