use Rattle.std.proofs.Common.{◌≡◌, drop}
use Rattle.std.specs.List.{list_any}
use Rattle.oci_entries.specs.Pattern.{matches, texts_of}
use Rattle.oci_entries.proofs.pattern.matches_one.Given as goal

-- whether one of the patterns matches rests on those that are left
abbrev pub invariant-loop-pattern : goal.invariant-loop-pattern
invariant-loop-pattern l = list_any (λ p. matches p l.text) (texts_of (drop l.pattern-index l.patterns)) ≡ list_any (λ p. matches p l.text) (texts_of l.patterns)
