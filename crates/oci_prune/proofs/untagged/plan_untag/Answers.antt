use Rattle.std.proofs.Common.{List, subst}
use Rattle.oci_manifest.specs.Descriptor.{Descriptor}
use Rattle.oci_layout_store.specs.Meaning.{meaning}
use Rattle.oci_prune.specs.Attached.{AttachedBy}
use Rattle.oci_prune.specs.Plan.{IsSafe}
use Rattle.oci_prune.specs.Untagged.{AreLeft}
use Rattle.oci_prune.proofs.untagged.plan_untag.Goals as goal

pub returns-clause-planned : goal.returns-clause-planned
returns-clause-planned g c =
    let l = c.args.layout.now in
    let dir = g.D.Dir.device l.dir in
    let kept = c.in_ok-kept.kept in (
      c.in_ok-is_known.ensures.0 c.if-not-branch.false,
      record {
        others = c.in_ok-others.others.items;
        are_others = c.in_ok-others.ensures.others;
        left = λ honest. subst (λ (ks : List Descriptor). AreLeft l.graph c.args.going.now ks (AttachedBy (meaning dir l.graph l.tags).entries l.tags) kept) c.deref-2.ensures.value (c.in_ok-kept.ensures.left honest);
        safe = subst (λ (ks : List Descriptor). IsSafe l.graph ks kept) c.deref-2.ensures.value c.in_ok-kept.ensures.safe;
        followed = c.in_ok-kept.ensures.followed;
      },
    )
