use Rattle.std.proofs.Common.{take}
use Rattle.oci_plan.specs.Plan.{Number}
use Rattle.oci_plan.proofs.gathering.keys_of.Given as goal

-- the keys so far are those of the numbers so far
abbrev pub invariant-loop-number : goal.invariant-loop-number
invariant-loop-number l = Number l.keys (take l.number-index l.numbers) l.named.items
