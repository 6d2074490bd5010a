use Rattle.std.proofs.Common.{Bool, cond, List, [], ◌∷◌, ◌++◌, map, ap, ◌∙◌}
use Rattle.std.specs.BTreeSet.{contains}
use Rattle.oci_manifest.specs.Descriptor.{key_cmp}
use Rattle.oci_layout_store.specs.Entries.{entry_of}
use Rattle.oci_layout_store.specs.Saved.{is_first}
use Rattle.oci_layout_store.specs.declared.index.IndexEntry.{IndexEntry as CodeEntry}
use Rattle.oci_layout_store.proofs.SavedEntries.{first_entries-more}
use Rattle.oci_layout_store.proofs.index.saved.first_entries.Goals as goal

pub loop-place-preserved : goal.loop-place-preserved
loop-place-preserved c =
    let absent = contains key_cmp c.args.absent.now in
    let graph = c.args.graph.now in
    let tags = c.args.tags.now in
    let place = c.loop-place.place in
    let e = c.index-entries-place.result in
    let first = map entry_of c.loop-place.first.items in
    c.in_ok-push_if.ensures
    ∙ ap (λ (b : Bool). first ++ cond b (entry_of e ∷ []) []) (c.is_first-is_first.ensures ∙ ap (λ (es : List CodeEntry). is_first absent graph tags (map entry_of es) place (entry_of e).key (entry_of e).name) c.requires)
    ∙ first_entries-more absent graph tags c.args.entries.now place e first c.loop-place-test.true c.index-entries-place.is c.loop-place.invariant
