use Rattle.std.proofs.Common.{take}
use Rattle.std.specs.Fmt.{HasWritten, IsPlainFormatter}
use Rattle.oci_prune_answer.specs.Pruned.{file_lines}
use Rattle.oci_prune_answer.proofs.prune_answer.fmt_files.Given as goal

-- the lines of the files so far
abbrev pub invariant-loop-file : goal.invariant-loop-file
invariant-loop-file g l = IsPlainFormatter l.fn.f → HasWritten g.W.Write.write_str_gives l.fn.f (file_lines (take l.file-index l.files)) l.f
