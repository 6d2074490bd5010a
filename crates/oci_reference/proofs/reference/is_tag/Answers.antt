use Rattle.std.proofs.Common.{is_some, ap, ◌∙◌}
use Rattle.oci_store.specs.Tags.{Tags, tag_at}
use Rattle.oci_reference.proofs.Preferred.{any_tag}
use Rattle.oci_reference.proofs.reference.is_tag.Goals as goal

pub returns : goal.returns
returns g c =
    let name = c.args.name.now in
    rw c.deref.ensures.value at c.has_tag.ensures ∙ any_tag name c.in_ok-tags.tags.items ∙ ap (λ (tags : Tags). is_some (tag_at tags name)) c.in_ok-tags.ensures.exact
