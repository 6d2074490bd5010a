use Rattle.std.proofs.Common.{◌∙◌, ap}
use Rattle.oci_manifest.specs.MediaTypes.{kind_of}
use Rattle.oci_layout_store.proofs.layout.walk.links_in.Goals as goal

pub checked_manifest-requires : goal.checked_manifest-requires
checked_manifest-requires g c =
    record { manifest = λ leaf. c.in_default.not-Leaf (c.of.ensures ∙ ap kind_of c.media_type.ensures ∙ leaf) }
