use Rattle.std.proofs.Common.{take}
use Rattle.std.specs.Prelude.{flat_map}
use Rattle.std.specs.Fmt.{HasWritten, IsPlainFormatter}
use Rattle.oci_query_commands.specs.Lines.{listed_line}
use Rattle.oci_query_commands.proofs.listing.TagsDisplay.fmt.Given as goal

-- the lines so far
abbrev pub invariant-loop-listed : goal.invariant-loop-listed
invariant-loop-listed g l = IsPlainFormatter l.fn.f → HasWritten g.W.Write.write_str_gives l.fn.f (flat_map listed_line (take l.listed-index l.self.tags.items)) l.f
