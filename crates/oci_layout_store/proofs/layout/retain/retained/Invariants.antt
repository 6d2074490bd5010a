use Rattle.std.proofs.Common.{◌≡◌, take, filter}
use Rattle.std.specs.BTreeSet.{contains}
use Rattle.oci_manifest.specs.Descriptor.{key_cmp}
use Rattle.oci_layout_store.proofs.layout.retain.retained.Given as goal

abbrev pub invariant-loop-place : goal.invariant-loop-place
invariant-loop-place l = l.rest ≡ filter (λ n. contains key_cmp l.kept n.0) (take l.place l.graph)
