use Rattle.std.proofs.Common.{ℕ, Bool, List}
use Rattle.oci_entries.specs.Pattern.{after_byte, IsRow}
use Rattle.oci_entries.proofs.PatternRows.{IsChangedFrom}
use Rattle.oci_entries.proofs.pattern.put_byte.Given as goal

-- the row is changed before the place
abbrev pub invariant-loop-place : goal.invariant-loop-place
invariant-loop-place l = (test : List ℕ → Bool) → IsRow test l.text l.fn.row → IsChangedFrom l.place (after_byte l.byte test) test l.text l.row
