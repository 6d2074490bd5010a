use Rattle.std.proofs.Common.{◌≡◌, ℕ, subst, arith}
use Rattle.oci_plan.specs.Climb.{IsClimbed}
use Rattle.oci_plan.proofs.Climbs.{raised_place, raised_more, climbed_more}
use Rattle.oci_plan.proofs.climbing.climb_level.Goals as goal

pub climb_from-requires : goal.climb_from-requires
climb_from-requires g c =
    raised_place (g.G.Store.state c.args.source.now).nodes c.args.found.now c.loop-place.found c.loop-place.place c.loop-place.invariant.raised (omega (arith, c.loop-place-test.true, c.requires.there))

pub loop-place-preserved : goal.loop-place-preserved
loop-place-preserved g c = record {
  climbed = climbed_more (g.G.Store.state c.args.source.now).nodes c.loop-place.found c.climb_from.new.found c.loop-place.place c.loop-place.invariant.climbed c.in_ok-climb_from.ensures;
  raised = raised_more (g.G.Store.state c.args.source.now).nodes c.args.found.now c.loop-place.found c.climb_from.new.found c.loop-place.place (omega (arith, c.loop-place-test.true, c.requires.there)) c.loop-place.invariant.raised c.in_ok-climb_from.ensures;
}

pub returns-clause-climbed : goal.returns-clause-climbed
returns-clause-climbed g c =
    let ended : c.loop-place.place ≡ c.args.end = omega (arith, c.loop-place-test.false, c.loop-place.auto.place) in
    subst (λ (n : ℕ). IsClimbed (g.G.Store.state c.args.source.now).nodes n c.loop-place.found) ended c.loop-place.invariant.climbed
