use Rattle.std.proofs.Common.{take}
use Rattle.std.specs.Prelude.{flat_map}
use Rattle.std.specs.Fmt.{HasWritten, IsPlainFormatter}
use Rattle.oci_query_commands.specs.Broken.{broken_line}
use Rattle.oci_query_commands.proofs.broken.print_broken.Given as goal

-- the lines so far
abbrev pub invariant-loop-tag : goal.invariant-loop-tag
invariant-loop-tag g l = IsPlainFormatter l.fn.f → HasWritten g.W.Write.write_str_gives l.fn.f (flat_map broken_line (take l.tag-index l.tags)) l.f
