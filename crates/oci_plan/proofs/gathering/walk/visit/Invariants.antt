use Rattle.std.proofs.Common.{◌-◌, take}
use Rattle.oci_plan.specs.Walk.{IsWalk, visits_of}
use Rattle.oci_plan.proofs.gathering.walk.visit.Given as goal

-- the keys before the place were visited
abbrev pub invariant-loop-key : goal.invariant-loop-key
invariant-loop-key g l =
    let all = visits_of l.existing l.keys l.all in
    IsWalk (g.A.Store.state l.source).is_honest l.existing (g.A.Store.state l.source).entries (g.D.Store.state l.destination).nodes l.roots l.limit all l.keys (take l.place all) l.lists.items

-- a place more is one less to visit
abbrev pub decreases-loop-key : goal.decreases-loop-key
decreases-loop-key g l = 18446744073709551615 - l.place
