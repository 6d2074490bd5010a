use Rattle.std.proofs.Common.{◌≡◌, ◌^◌, ◌-◌, min, take}
use Rattle.oci_copy_commands.specs.Printed.{sum_of_sizes}
use Rattle.oci_copy_commands.proofs.dry_run.sum_of_sizes.Given as goal

-- the sum so far
abbrev pub invariant-loop-key : goal.invariant-loop-key
invariant-loop-key l = l.bytes ≡ min (sum_of_sizes (take l.key-index l.keys)) (2 ^ 128 - 1)
