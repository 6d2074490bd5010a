use Rattle.std.proofs.Common.{take}
use Rattle.std.specs.Prelude.{flat_map}
use Rattle.std.specs.Fmt.{HasWritten, IsPlainFormatter}
use Rattle.oci_query_commands.specs.Lines.{shadowed_line}
use Rattle.oci_query_commands.proofs.verify.print_shadowed.Given as goal

-- the lines so far
abbrev pub invariant-loop-tag : goal.invariant-loop-tag
invariant-loop-tag g l = IsPlainFormatter l.fn.f → HasWritten g.W.Write.write_str_gives l.fn.f (flat_map shadowed_line (take l.tag-index l.entries)) l.f
