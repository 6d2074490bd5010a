use Rattle.std.proofs.Common.{◌≡◌, false, replicate}
use Rattle.oci_entries.proofs.pattern.end_row.Given as goal

-- no place passes before the end
abbrev pub invariant-loop : goal.invariant-loop
invariant-loop l = l.row.items ≡ replicate l.index false
