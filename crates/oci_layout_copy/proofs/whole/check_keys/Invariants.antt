use Rattle.std.proofs.Common.{take}
use Rattle.std.specs.List.{All}
use Rattle.oci_layout_copy.specs.Mirror.{IsHeldManifest}
use Rattle.oci_layout_copy.proofs.whole.check_keys.Given as goal

-- as far as the loop has come
abbrev pub invariant-loop-key : goal.invariant-loop-key
invariant-loop-key g l = All (IsHeldManifest l.source.graph) (take l.key-index l.keys)
