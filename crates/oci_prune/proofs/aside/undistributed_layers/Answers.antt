use Rattle.std.proofs.Common.{List, ap, ◌∙◌}
use Rattle.std.specs.Option.{option_copied}
use Rattle.oci_manifest.specs.Descriptor.{Descriptor, is_among}
use Rattle.oci_layout_store.specs.Blobs.{stored}
use Rattle.oci_prune.specs.Aside.{is_one_of}
use Rattle.oci_prune.proofs.Passing.{distinct_aside}
use Rattle.oci_prune.proofs.aside.undistributed_layers.Goals as goal

pub returns-clause-exact : goal.returns-clause-exact
returns-clause-exact g c = λ honest.
    let layout = c.args.layout.now in
    distinct_aside (is_one_of (option_copied c.args.among)) (stored (g.D.Dir.device layout.dir).file layout.graph) c.in_ok-listed.listed.items c.in_ok-layers.layers.items c.in_ok-distinct.distinct
    (λ k. c.in_ok-distinct.ensures k ∙ ap (λ (ks : List Descriptor). is_among ks k) c.deref.ensures.value) c.in_ok-layers.ensures.keys (c.in_ok-listed.ensures.exact honest)
