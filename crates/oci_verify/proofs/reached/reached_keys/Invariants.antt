use Rattle.std.proofs.Common.{◌≤◌, ◌-◌, length}
use Rattle.oci_verify.specs.Reached.{IsWalking}
use Rattle.oci_verify.proofs.reached.reached_keys.Given as goal

-- as far as the walk has come
abbrev pub invariant-loop-place : goal.invariant-loop-place
invariant-loop-place g l = record {
  walking : IsWalking (g.S.Store.state l.source).nodes l.key l.found l.place;
  inside : l.place ≤ length l.found;
}

abbrev pub decreases-loop-place : goal.decreases-loop-place
decreases-loop-place g l = 18446744073709551615 - l.place
