use Rattle.std.proofs.Common.{◌≡◌, ◌++◌, drop}
use Rattle.oci_layout_store.specs.Layout.{manifests_of}
use Rattle.oci_layout_store.proofs.layout.manifests_of.Given as goal

-- the keys found so far, followed by those that are left
abbrev pub invariant-loop-key : goal.invariant-loop-key
invariant-loop-key l = l.manifests.items ++ manifests_of (drop l.key-index l.keys) ≡ manifests_of l.keys
