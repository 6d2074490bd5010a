use Rattle.std.proofs.Common.{◌≡◌, ◌-◌, ◌^◌, min, sum_by, take}
use Rattle.oci_prune_answer.specs.declared.prune_answer.RemovedFile.{RemovedFile}
use Rattle.oci_prune_answer.proofs.prune_answer.sum_of_lengths.Given as goal

abbrev pub invariant-loop-file : goal.invariant-loop-file
invariant-loop-file l = l.sum ≡ min (sum_by (λ (f : RemovedFile). f.length) (take l.file-index l.files)) (2 ^ 128 - 1)
