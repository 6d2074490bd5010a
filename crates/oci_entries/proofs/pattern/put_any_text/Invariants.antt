use Rattle.std.proofs.Common.{ℕ, Bool, List, ◌≤◌, ◌-◌}
use Rattle.oci_entries.specs.Pattern.{some_end, IsRow}
use Rattle.oci_entries.proofs.PatternRows.{IsChangedFrom}
use Rattle.oci_entries.proofs.pattern.put_any_text.Given as goal

-- the row is changed from the place before on
abbrev pub invariant-loop-place : goal.invariant-loop-place
invariant-loop-place l = (test : List ℕ → Bool) (text : List ℕ) → IsRow test text l.fn.row → (1 ≤ l.place) × IsChangedFrom (l.place - 1) test (some_end test) text l.row
