use Rattle.std.proofs.Common.{take}
use Rattle.std.specs.Prelude.{flat_map}
use Rattle.std.specs.Fmt.{HasWritten, IsPlainFormatter}
use Rattle.oci_query_commands.specs.Lines.{foreign_line}
use Rattle.oci_query_commands.proofs.verify.print_foreign.Given as goal

-- the lines so far
abbrev pub invariant-loop-key : goal.invariant-loop-key
invariant-loop-key g l = IsPlainFormatter l.fn.f → HasWritten g.W.Write.write_str_gives l.fn.f (flat_map foreign_line (take l.key-index l.keys)) l.f
