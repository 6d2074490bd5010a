use Rattle.std.proofs.Common.{codes, ap, ◌∙◌}
use Rattle.serde_json.specs.View.{view, members_view}
use Rattle.std.proofs.lemmas.Result.{IfOk-weaker}
use Rattle.oci_layout_store.specs.Brought.{with_annotations, with_name}
use Rattle.oci_layout_store.specs.Entries.{without_member}
use Rattle.oci_layout_store.proofs.Members.{members_view-removed}
use Rattle.oci_layout_store.proofs.index.renamed.value_without_name.Goals as goal

pub returns : goal.returns
unfolding with_name
returns c =
    let name = codes "org.opencontainers.image.ref.name" in
    let removed = ap members_view c.remove.ensures.entries ∙ members_view-removed c.in_ok-annotations.annotations.entries name c.len.ensures.ordered
    ∙ ap (without_member name) c.in_ok-annotations.ensures in
    IfOk-weaker c.with_annotations.result _ _ (λ v made. made ∙ ap (with_annotations (view c.args.value.now)) removed) c.with_annotations.ensures
