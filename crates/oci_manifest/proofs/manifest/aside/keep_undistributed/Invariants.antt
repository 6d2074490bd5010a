use Rattle.std.proofs.Common.{◌≡◌, take}
use Rattle.oci_manifest.specs.Undistributed.{undistributed_in}
use Rattle.oci_manifest.proofs.manifest.aside.keep_undistributed.Given as goal

-- what is kept are those of the keys so far that are not distributed
abbrev pub invariant-loop-key : goal.invariant-loop-key
invariant-loop-key l = l.kept.items ≡ undistributed_in (take l.key-index l.keys)
