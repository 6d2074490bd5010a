use Rattle.std.proofs.Common.{take}
use Rattle.std.specs.Fmt.{HasWritten, IsPlainFormatter}
use Rattle.oci_prune_commands.specs.Untagged.{belonged_lines}
use Rattle.oci_prune_commands.proofs.untag.BelongedDisplay.fmt.Given as goal

-- the lines of the keys so far
abbrev pub invariant-loop-key : goal.invariant-loop-key
invariant-loop-key g l = IsPlainFormatter l.fn.f → HasWritten g.W.Write.write_str_gives l.fn.f (belonged_lines (take l.key-index l.self.0.now)) l.f
