use Rattle.std.proofs.Common.{◌≡◌}
use Rattle.oci_plan.specs.Plan.{keys_before}
use Rattle.oci_copy_commands.specs.Printed.{keys_in}
use Rattle.oci_copy_commands.proofs.dry_run.keys_in_order.Given as goal

-- the keys of the places so far
abbrev pub invariant-loop-place : goal.invariant-loop-place
invariant-loop-place l = keys_in l.keys.items ≡ keys_before l.place l.plan
