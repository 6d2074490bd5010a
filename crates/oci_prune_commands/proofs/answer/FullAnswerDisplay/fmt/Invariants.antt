use Rattle.std.proofs.Common.{take, string_bytes}
use Rattle.std.specs.Fmt.{HasWritten, IsPlainFormatter}
use Rattle.std.specs.List.{flat_map}
use Rattle.oci_program.specs.declared.answer.Tagged.{Tagged}
use Rattle.oci_prune_commands.specs.PruneText.{tag_line}
use Rattle.oci_prune_commands.proofs.answer.FullAnswerDisplay.fmt.Given as goal

-- the lines of the tags so far
abbrev pub invariant-loop-tag : goal.invariant-loop-tag
invariant-loop-tag g l =
    IsPlainFormatter l.fn.f → HasWritten g.W.Write.write_str_gives l.fn.f (flat_map (λ (t : Tagged). tag_line (string_bytes t.tag, t.descriptor)) (take l.tag-index l.self.untagged.items)) l.f
