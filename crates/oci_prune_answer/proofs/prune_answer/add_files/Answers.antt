use Rattle.std.proofs.lemmas.Slice.Zip.{either_empty_from_Zip}
use Rattle.oci_prune_answer.specs.Pruned.{of_file}
use Rattle.oci_prune_answer.proofs.Naming.{none_left}
use Rattle.oci_prune_answer.proofs.prune_answer.add_files.Goals as goal

pub returns : goal.returns
returns c = none_left _ _ of_file _ _ (either_empty_from_Zip c.loop-file.file-iterator c.next.new.self _ c.in-None.is c.next.ensures.steps) c.loop-file.invariant
