use Rattle.std.proofs.Common.{◌≡◌, take}
use Rattle.oci_live.proofs.opening.history_of.Given as goal

abbrev pub invariant-loop-place : goal.invariant-loop-place
invariant-loop-place l = l.history.front.log ≡ take l.place l.entries
