use Rattle.std.proofs.Common.{◌≡◌, ℕ, Bool, List, drop}
use Rattle.oci_entries.specs.Pattern.{after_character, after_continuation, IsRow}
use Rattle.oci_entries.proofs.PatternRows.{IsChangedFrom}
use Rattle.oci_entries.proofs.pattern.put_character.Given as goal

-- the row is changed from the place on
abbrev pub invariant-loop-place : goal.invariant-loop-place
invariant-loop-place l = (test : List ℕ → Bool) → IsRow test l.text l.fn.row → IsChangedFrom l.place test (after_character test) l.text l.row × (l.after ≡ test (after_continuation (drop l.place l.text)))
