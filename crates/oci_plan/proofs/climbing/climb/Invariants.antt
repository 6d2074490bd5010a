use Rattle.std.proofs.Common.{◌≤◌, ◌-◌, length}
use Rattle.oci_plan.specs.Climb.{IsFoundWithin, IsClimbed}
use Rattle.oci_plan.specs.Up.{IsWithinDepth}
use Rattle.oci_plan.proofs.climbing.climb.Given as goal

-- each key within so many edges was found, and what lists one of those climbed from
abbrev pub invariant-loop-climbed : goal.invariant-loop-climbed
invariant-loop-climbed g l = record {
  within : IsFoundWithin (g.G.Store.state l.source).nodes l.key l.edges l.found;
  climbed : IsClimbed (g.G.Store.state l.source).nodes l.climbed l.found;
  deep : IsWithinDepth l.depth l.edges;
  few : l.edges ≤ l.climbed;
  there : l.climbed ≤ length l.found;
}

-- a level more is a place less to climb from
abbrev pub decreases-loop-climbed : goal.decreases-loop-climbed
decreases-loop-climbed g l = 18446744073709551615 - l.climbed
