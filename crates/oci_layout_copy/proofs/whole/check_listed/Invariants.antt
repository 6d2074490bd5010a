use Rattle.std.proofs.Common.{take}
use Rattle.std.specs.List.{All}
use Rattle.std.specs.Map.{keys_of}
use Rattle.oci_layout_copy.specs.Mirror.{ListsHeldManifests}
use Rattle.oci_layout_copy.proofs.whole.check_listed.Given as goal

-- as far as the loop has come
abbrev pub invariant-loop-place : goal.invariant-loop-place
invariant-loop-place g l = All (ListsHeldManifests l.source.graph) (keys_of (take l.place l.source.graph))
