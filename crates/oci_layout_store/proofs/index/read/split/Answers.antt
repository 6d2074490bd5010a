use Rattle.std.proofs.Common.{codes, sym, ap, ◌∙◌}
use Rattle.serde_json.specs.View.{view, members_view}
use Rattle.serde_json.proofs.Views.{view-Object}
use Rattle.oci_layout_store.specs.Entries.{index_elements, object_members, without_member}
use Rattle.oci_layout_store.proofs.Members.{elements-removed, members_view-removed}
use Rattle.oci_layout_store.proofs.index.read.split.Goals as goal

pub returns-in-Ok-clause-elements : goal.returns-in-Ok-clause-elements
returns-in-Ok-clause-elements c =
    ap index_elements (ap view c.in-Object.is) ∙ elements-removed c.in-Object.members c.remove.result c.remove.ensures.value ∙ c.in-Ok.ensures

pub returns-in-Ok-clause-members : goal.returns-in-Ok-clause-members
returns-in-Ok-clause-members c =
    ap object_members (view-Object c.remove.new.self) ∙ ap members_view c.remove.ensures.entries
    ∙ members_view-removed c.in-Object.members.entries (codes "manifests") c.len.ensures.ordered
    ∙ ap (without_member (codes "manifests")) (sym (ap object_members (ap view c.in-Object.is ∙ view-Object c.in-Object.members)))

pub returns-in-Err-clause-elements : goal.returns-in-Err-clause-elements
returns-in-Err-clause-elements c =
    rw (ap index_elements (ap view c.in-Object.is) ∙ elements-removed c.in-Object.members c.remove.result c.remove.ensures.value) c.in-Err.ensures
