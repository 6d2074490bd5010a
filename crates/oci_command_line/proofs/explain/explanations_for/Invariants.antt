use Rattle.std.proofs.Common.{All}
use Rattle.oci_command_line.specs.Explain.{IsAskedBy}
use Rattle.oci_command_line.proofs.explain.explanations_for.Given as goal

-- what was found so far is asked for
abbrev pub invariant-loop-entry : goal.invariant-loop-entry
invariant-loop-entry l = All (IsAskedBy l.word) l.found.items
