use Rattle.std.proofs.Common.{◌≡◌, take}
use Rattle.std.specs.Map.{keys_of}
use Rattle.oci_layout_store.specs.Layout.{manifests_of}
use Rattle.oci_reference.proofs.reference.held_manifests.Given as goal

-- as far as the loop has come
abbrev pub invariant-loop-place : goal.invariant-loop-place
invariant-loop-place g l = l.manifests.items ≡ manifests_of (keys_of (take l.place l.layout.graph))
