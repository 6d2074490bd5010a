use Rattle.std.proofs.Common.{◌∙◌, ap}
use Rattle.oci_store.specs.Tags.{Tags, by_bytes, tag_at, without_tag}
use Rattle.oci_store.proofs.TagNames.{by_bytes-removed, lookup-by_bytes}
use Rattle.oci_store.proofs.tags.Tags.remove.Goals as goal

pub returns-clause-named : goal.returns-clause-named
returns-clause-named c = c.remove.ensures.value ∙ lookup-by_bytes c.self.inside.keys.entries c.args.name.now ∙ ap (λ (tags : Tags). tag_at tags c.args.name.now) c.self.view_is

pub returns-clause-removed : goal.returns-clause-removed
returns-clause-removed c = ap by_bytes c.remove.ensures.entries ∙ by_bytes-removed c.self.inside.keys.entries c.args.name.now c.len.ensures.ordered ∙ ap (λ (tags : Tags). without_tag tags c.args.name.now) c.self.view_is
