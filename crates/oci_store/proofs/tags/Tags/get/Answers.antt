use Rattle.std.proofs.Common.{◌∙◌, ap}
use Rattle.oci_store.specs.Tags.{Tags, tag_at}
use Rattle.oci_store.proofs.TagNames.{lookup-by_bytes}
use Rattle.oci_store.proofs.tags.Tags.get.Goals as goal

pub returns : goal.returns
returns c = c.get.ensures.value ∙ lookup-by_bytes c.self.inside.keys.entries c.args.name.now ∙ ap (λ (tags : Tags). tag_at tags c.args.name.now) c.self.view_is
