use Rattle.std.proofs.Common.{List, map, take, sym, ap, subst, ◌∙◌}
use Rattle.std.proofs.lemmas.List.{take_all}
use Rattle.oci_layout_store.specs.Entries.{IndexEntry, entry_of, text_of}
use Rattle.oci_layout_store.specs.declared.index.IndexEntry.{IndexEntry as CodeEntry}
use Rattle.oci_layout_store.proofs.LastNames.{entries-more}
use Rattle.oci_prune.proofs.Bringing.{ok_both}
use Rattle.oci_store.specs.Tags.{by_bytes}
use Rattle.oci_query_commands.specs.Broken.{with_tag_of}
use Rattle.oci_query_commands.proofs.BrokenTags.{HasTags, HasTags-none, HasTags-more, HasTags-all}
use Rattle.oci_query_commands.proofs.broken.all_tags.Goals as goal

pub loop-entry-init : goal.loop-entry-init
loop-entry-init c = HasTags-none (map entry_of c.args.entries.now) c.new-tags.result c.new-tags.ensures

pub loop-entry-preserved : goal.loop-entry-preserved
loop-entry-preserved c =
    let entries = c.args.entries.now in
    let place = c.loop-entry.entry-index in
    let entry = c.entry-item.result in
    let same = ap (λ (es : List CodeEntry). with_tag_of (map entry_of es) (text_of entry.name) c.loop-entry.tags) c.in_ok-names.ensures in
    subst (λ (es : List IndexEntry). HasTags (map entry_of entries) es c.set_tag.new.tags) (sym (entries-more entries place entry c.loop-entry-test.true c.entry-item.is))
    (HasTags-more (map entry_of entries) (map entry_of (take place entries)) (entry_of entry) c.loop-entry.tags c.set_tag.new.tags c.loop-entry.invariant (c.in_ok-set_tag.ensures ∙ same))

pub returns : goal.returns
returns c =
    let entries = map entry_of c.args.entries.now in
    let all = subst (λ (es : List CodeEntry). HasTags entries (map entry_of es) c.loop-entry.tags) (take_all c.loop-entry.entry-index c.args.entries.now c.loop-entry-test.false) c.loop-entry.invariant in
    ok_both c.to_vec.result _ _ _ (λ tags exact order. HasTags-all entries c.loop-entry.tags (by_bytes tags.items) all exact order) c.to_vec.ensures.exact c.to_vec.ensures.order
