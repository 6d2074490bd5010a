use Rattle.std.proofs.Common.{◌≡◌, ◌++◌}
use Rattle.oci_dir.specs.Prunable.{by_name}
use Rattle.oci_dir.proofs.Listed.{lengths_of}
use Rattle.oci_dir.proofs.mem_dir.lengths_of.Given as goal

abbrev pub invariant-loop-path : goal.invariant-loop-path
invariant-loop-path l = by_name l.found.items ++ lengths_of l.path-iterator ≡ lengths_of l.files.entries
