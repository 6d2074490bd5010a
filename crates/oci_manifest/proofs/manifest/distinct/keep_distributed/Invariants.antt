use Rattle.std.proofs.Common.{◌≡◌}
use Rattle.oci_manifest.specs.Manifest.{distributed_once}
use Rattle.oci_manifest.specs.Reading.{Remembers}
use Rattle.oci_manifest.proofs.manifest.distinct.keep_distributed.Given as goal

-- what is kept is what the keys so far give, and the set has just that
abbrev pub invariant-loop-key : goal.invariant-loop-key
invariant-loop-key l = record { kept : l.kept.items ≡ distributed_once l.yielded; remembers : Remembers l.seen l.kept.items }
