use Rattle.std.proofs.Common.{take}
use Rattle.std.specs.Prelude.{flat_map}
use Rattle.std.specs.Fmt.{HasWritten, IsPlainFormatter}
use Rattle.oci_query_commands.specs.Lines.{absent_line}
use Rattle.oci_query_commands.proofs.verify.print_absent.Given as goal

-- the lines so far
abbrev pub invariant-loop-key : goal.invariant-loop-key
invariant-loop-key g l = IsPlainFormatter l.fn.f → HasWritten g.W.Write.write_str_gives l.fn.f (flat_map absent_line (take l.key-index l.keys)) l.f
