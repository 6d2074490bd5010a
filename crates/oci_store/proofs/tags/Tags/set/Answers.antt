use Rattle.std.proofs.Common.{◌∙◌, ap, List, ℕ, string_bytes}
use Rattle.oci_manifest.specs.Descriptor.{Descriptor}
use Rattle.oci_store.specs.Tags.{Tags, by_bytes, set_tag}
use Rattle.oci_store.proofs.TagNames.{by_bytes-insert_entry}
use Rattle.oci_store.proofs.tags.Tags.set.Goals as goal

pub returns-clause-set : goal.returns-clause-set
returns-clause-set c =
    let name = c.in_ok-name.name in
    let key = c.in_ok-key.key in
    ap by_bytes c.in_ok-insert.ensures.entries ∙ by_bytes-insert_entry c.self.inside.keys.entries name key
    ∙ ap (λ (tags : Tags). set_tag tags (string_bytes name) key) c.self.view_is
    ∙ ap (λ (bytes : List ℕ). set_tag c.args.self.now bytes key) c.in_ok-name.ensures.ok
    ∙ ap (λ (k : Descriptor). set_tag c.args.self.now c.args.name.now k) c.in_ok-key.ensures
