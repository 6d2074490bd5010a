use Rattle.std.proofs.Common.{ℕ, List, inl, inr, subst, arith}
use Rattle.std.specs.Prelude.{Contains, ◌↔◌}
use Rattle.oci_manifest.specs.Descriptor.{Descriptor}
use Rattle.oci_plan.specs.Climb.{IsClimbed}
use Rattle.oci_plan.proofs.Climbs.{raised_longer, within_more, HasEnded, up_found}
use Rattle.oci_plan.proofs.climbing.climb.Goals as goal
use Rattle.oci_plan.proofs.climbing.climb.Goals.{then-loop-climbed-test+else-goes_on, else-loop-climbed-test}

pub loop-climbed-preserved : goal.loop-climbed-preserved
loop-climbed-preserved g c =
    let all = subst (λ (n : ℕ). IsClimbed (g.G.Store.state c.args.source.now).nodes n c.climb_level.new.found) c.len-end.ensures c.in_ok-climb_level.ensures.climbed in
    record {
      within = within_more (g.G.Store.state c.args.source.now).nodes c.args.key.now c.loop-climbed.edges c.loop-climbed.found c.climb_level.new.found c.loop-climbed.invariant.within c.in_ok-climb_level.ensures.raised all;
      climbed = c.in_ok-climb_level.ensures.climbed;
      deep = c.goes_on.ensures.more c.if-goes_on.true;
      few = omega (arith, c.loop-climbed.invariant.few, c.loop-climbed-test.true, c.len.ensures, c.len-end.ensures);
      there = omega (arith, c.len-end.ensures, raised_longer (g.G.Store.state c.args.source.now).nodes c.loop-climbed.found c.climb_level.new.found c.in_ok-climb_level.ensures.raised);
    }

pub returns : goal.returns
returns g c =
    let ended : HasEnded c.args.depth c.loop-climbed.edges c.loop-climbed.climbed c.loop-climbed.found =
    elim c.loop-climbed-test.branch [
      | then-loop-climbed-test+else-goes_on w ↦
          let full = w.goes_on.ensures.full w.if-goes_on.false in
          inr (full.0, omega (arith, full.1, c.loop-climbed.invariant.deep full.0))
      | else-loop-climbed-test w ↦ inl (omega (arith, w.loop-climbed-test.false, c.len.ensures, c.loop-climbed.invariant.there))
    ] in
    up_found (g.G.Store.state c.args.source.now).nodes c.args.key.now c.args.depth c.loop-climbed.edges c.loop-climbed.climbed c.loop-climbed.found c.in_ok-keys.keys.items c.loop-climbed.invariant.within c.loop-climbed.invariant.climbed c.loop-climbed.invariant.deep ended
    (subst (λ (ks : List Descriptor). (from : Descriptor) → Contains c.in_ok-keys.keys.items from ↔ Contains ks from) c.into_keys.ensures.keys c.in_ok-keys.ensures.each)
    c.in_ok-keys.ensures.order
