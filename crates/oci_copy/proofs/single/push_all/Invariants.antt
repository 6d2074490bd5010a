use Rattle.std.proofs.Common.{◌≡◌, ◌+◌, ◌++◌, length}
use Rattle.std.specs.Map.{keys_of}
use Rattle.oci_plan.specs.Plan.{keys_before}
use Rattle.oci_copy.specs.Kept.{Keeps}
use Rattle.oci_copy.proofs.single.push_all.Given as goal

abbrev pub invariant-loop-place : goal.invariant-loop-place
invariant-loop-place g l = record {
  keys : keys_of (g.D.Store.state l.destination).nodes ≡ keys_of (g.D.Store.state l.initial.destination).nodes ++ keys_before l.place l.plan;
  count : length (g.D.Store.state l.destination).nodes ≡ length (g.D.Store.state l.initial.destination).nodes + l.place;
  keeps : Keeps g.D.Dest.shares (g.A.Store.state l.source) l.plan.keys (g.D.Store.state l.initial.destination) (g.D.Store.state l.destination);
  running : (g.D.Store.state l.destination).is_halted → (g.D.Store.state l.initial.destination).is_halted;
}
