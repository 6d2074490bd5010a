use Rattle.std.proofs.Common.{sym, ap, ◌∙◌, arith}
use Rattle.std.specs.Option.{option_copied}
use Rattle.oci_reference.proofs.Preferred.{manifests_more}
use Rattle.oci_reference.proofs.reference.held_manifests.Goals as goal

pub loop-place-preserved : goal.loop-place-preserved
loop-place-preserved g c =
    manifests_more c.args.layout.now.graph c.loop-place.place c.in-Some.key.now c.loop-place.manifests.items c.add_manifest.new.manifests.items (omega (arith, c.loop-place-test.true, c.count-place-end.ensures.count))
    (sym c.key.ensures ∙ ap option_copied c.in-Some.is) c.loop-place.invariant c.in_ok-add_manifest.ensures
