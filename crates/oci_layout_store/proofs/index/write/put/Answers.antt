use Rattle.std.proofs.Common.{ℕ, List, ap, ◌∙◌}
use Rattle.serde_json.specs.Data.{put}
use Rattle.serde_json.specs.View.{view, members_view}
use Rattle.serde_json.proofs.Views.{members_view-insert_entry}
use Rattle.oci_layout_store.proofs.index.write.put.Goals as goal

pub returns : goal.returns
returns c =
    let members = c.args.members.now.entries in
    ap members_view c.in_ok-insert.ensures.entries ∙ members_view-insert_entry members c.in_ok-from_str.field-0 c.args.value
    ∙ ap (λ (name : List ℕ). put name (view c.args.value) (members_view members)) c.in_ok-from_str.ensures.ok
