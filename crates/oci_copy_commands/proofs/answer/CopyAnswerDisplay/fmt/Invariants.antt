use Rattle.std.proofs.Common.{take}
use Rattle.std.specs.Fmt.{HasWritten, IsPlainFormatter}
use Rattle.std.specs.List.{flat_map}
use Rattle.oci_program.specs.declared.answer.Tagged.{Tagged}
use Rattle.oci_copy_commands.specs.Printed.{copied_line}
use Rattle.oci_copy_commands.proofs.answer.CopyAnswerDisplay.fmt.Given as goal

-- the lines of the tags so far
abbrev pub invariant-loop-tagged : goal.invariant-loop-tagged
invariant-loop-tagged g l =
    IsPlainFormatter l.fn.f → HasWritten g.W.Write.write_str_gives l.fn.f (flat_map (λ (t : Tagged). copied_line t.descriptor) (take l.tagged-index l.self.copied.items)) l.f
