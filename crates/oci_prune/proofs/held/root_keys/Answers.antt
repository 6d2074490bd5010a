use Rattle.std.proofs.Common.{List, String, Global, ◌++◌, ap, ◌∙◌}
use Rattle.std.specs.Map.{values_of}
use Rattle.oci_manifest.specs.Descriptor.{Descriptor}
use Rattle.oci_store.specs.Tags.{by_bytes}
use Rattle.oci_prune.proofs.Plans.{roots_held}
use Rattle.oci_prune.proofs.held.root_keys.Goals as goal

pub returns-clause-roots : goal.returns-clause-roots
returns-clause-roots g c =
    c.in_ok-roots.ensures
    ∙ ap (λ (keys : List Descriptor). keys ++ c.in_ok-tagged.tagged.items) c.in_ok-copies.ensures
    ∙ ap (λ (tagged : List Descriptor). c.args.keys.now ++ tagged)
    (c.in_ok-tagged.ensures
    ∙ ap (λ (keys : List Descriptor). keys ++ c.in_ok-shadowed_keys.field-0.items)
    (c.in_ok-named_keys.ensures ∙ ap (λ (tags : List (String Global × Descriptor)). values_of (by_bytes tags)) c.deref.ensures.value ∙ ap values_of c.in_ok-tags.ensures.exact)
    ∙ ap (λ (keys : List Descriptor). values_of c.args.layout.now.tags ++ keys) c.in_ok-shadowed_keys.ensures)

pub returns-clause-held : goal.returns-clause-held
returns-clause-held g c = roots_held c.args.layout.now c.tags.ensures.names
