use Rattle.std.proofs.Common.{drop}
use Rattle.oci_entries.specs.Pattern.{matches, IsRow}
use Rattle.oci_entries.proofs.pattern.matches.Given as goal

-- the row is that of the pattern from the place on
abbrev pub invariant-loop-place : goal.invariant-loop-place
invariant-loop-place l = IsRow (matches (drop l.place l.pattern)) l.text l.row
