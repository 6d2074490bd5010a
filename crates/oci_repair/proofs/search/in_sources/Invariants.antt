use Rattle.std.proofs.Common.{take}
use Rattle.oci_repair.specs.Sources.{files_in, AreHonest}
use Rattle.oci_repair.proofs.Places.{AreWithout}
use Rattle.oci_repair.proofs.search.in_sources.Given as goal

-- the sources so far have no whole file of the key
abbrev pub invariant-loop-place : goal.invariant-loop-place
invariant-loop-place g l = AreHonest g.F.Dir.device g.A.Dir.device l.sources → AreWithout (files_in g.F.Dir.device g.A.Dir.device (take l.place l.sources)) l.key
