use Rattle.oci_plan.specs.Climb.{IsClimbed, IsRaised}
use Rattle.oci_plan.proofs.climbing.climb_level.Given as goal

-- as far as the loop has come
abbrev pub invariant-loop-place : goal.invariant-loop-place
invariant-loop-place g l = record {
  climbed : IsClimbed (g.G.Store.state l.source).nodes l.place l.found;
  raised : IsRaised (g.G.Store.state l.source).nodes l.initial.found l.found;
}
