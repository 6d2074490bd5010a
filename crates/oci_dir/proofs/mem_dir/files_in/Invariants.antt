use Rattle.oci_dir.specs.Prunable.{by_name}
use Rattle.oci_dir.proofs.Listed.{AreFound}
use Rattle.oci_dir.proofs.mem_dir.files_in.Given as goal

abbrev pub invariant-loop-path : goal.invariant-loop-path
invariant-loop-path l = AreFound l.folder l.files.entries (by_name l.found.items) l.path-iterator
