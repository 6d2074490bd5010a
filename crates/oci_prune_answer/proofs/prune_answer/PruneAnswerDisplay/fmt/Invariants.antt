use Rattle.std.proofs.Common.{take}
use Rattle.std.specs.Fmt.{HasWritten, IsPlainFormatter}
use Rattle.std.specs.Prelude.{flat_map}
use Rattle.oci_prune_answer.specs.Pruned.{removed_line}
use Rattle.oci_prune_answer.proofs.prune_answer.PruneAnswerDisplay.fmt.Given as goal

-- the lines of the keys so far
abbrev pub invariant-loop-key : goal.invariant-loop-key
invariant-loop-key g l = IsPlainFormatter l.fn.f → HasWritten g.W.Write.write_str_gives l.fn.f (flat_map removed_line (take l.key-index l.self.removed.items)) l.f
