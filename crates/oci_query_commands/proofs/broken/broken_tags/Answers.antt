use Rattle.std.proofs.Common.{List, String, Global, map, ap, ◌∙◌}
use Rattle.std.specs.BTreeSet.{contains}
use Rattle.std.proofs.lemmas.Result.{IfOk-weaker}
use Rattle.oci_layout_store.specs.Entries.{entry_of, said}
use Rattle.oci_layout_store.specs.declared.index.IndexEntry.{IndexEntry as CodeEntry}
use Rattle.oci_manifest.specs.Descriptor.{Descriptor, is_among, key_cmp}
use Rattle.oci_store.specs.Tags.{by_bytes, tag_at}
use Rattle.oci_query_commands.specs.Broken.{broken_of, key_of_tag}
use Rattle.oci_query_commands.proofs.BrokenTags.{AreBroken-same}
use Rattle.oci_query_commands.proofs.broken.broken_tags.Goals as goal

pub returns : goal.returns
returns g c =
    let layout = c.args.layout.now in
    IfOk-weaker c.broken_among.result _ _
    (λ broken are. AreBroken-same layout.graph (contains key_cmp c.in_ok-set.set) (is_among c.args.corrupt.now) (tag_at (by_bytes c.deref.result.now)) (key_of_tag (said layout.opened.content).entries) c.in_ok-set.ensures
    (λ name. ap (λ (pairs : List (String Global × Descriptor)). tag_at (by_bytes pairs) name) c.deref.ensures.value ∙ c.in_ok-tags.ensures.each name ∙ ap (λ (entries : List CodeEntry). key_of_tag (map entry_of entries) name) c.entries.ensures.entries)
    (map broken_of broken.items) are)
    c.broken_among.ensures
