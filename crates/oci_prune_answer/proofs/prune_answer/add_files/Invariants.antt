use Rattle.std.proofs.Common.{◌≡◌, ◌++◌, map}
use Rattle.oci_prune.specs.Pruned.{flagged}
use Rattle.oci_prune_answer.specs.Pruned.{of_file, shown}
use Rattle.oci_prune_answer.proofs.prune_answer.add_files.Given as goal

abbrev pub invariant-loop-file : goal.invariant-loop-file
invariant-loop-file l =
    shown l.gone.items ++ map of_file (flagged l.file-iterator.a.rest.now l.file-iterator.b.rest.now) ≡ shown l.initial.gone.items ++ map of_file (flagged l.files l.went)
