use Rattle.std.proofs.Common.{◌≡◌, drop, false}
use Rattle.oci_digest.proofs.Algorithms.{algorithm_from}
use Rattle.oci_digest.proofs.parse.is_algorithm.Given as goal

abbrev pub invariant-loop-byte : goal.invariant-loop-byte
invariant-loop-byte l = algorithm_from l.after_component (drop l.byte-index l.bytes) ≡ algorithm_from false l.bytes
