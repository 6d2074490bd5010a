use Rattle.std.proofs.Common.{◌≤◌, ◌-◌, length}
use Rattle.oci_prune.specs.Attached.{AttachedIn}
use Rattle.oci_prune.specs.Walk.{IsWalking}
use Rattle.oci_prune.proofs.members.members_of.Given as goal

abbrev pub invariant-loop-place : goal.invariant-loop-place
invariant-loop-place g l = record {
  walking : IsWalking (g.S.Store.state l.source).nodes l.keys (AttachedIn l.attachments) l.refuses_absent l.found l.members l.place;
  inside : l.place ≤ length l.found;
}

abbrev pub decreases-loop-place : goal.decreases-loop-place
decreases-loop-place g l = 18446744073709551615 - l.place
