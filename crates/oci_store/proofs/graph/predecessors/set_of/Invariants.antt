use Rattle.std.proofs.Common.{◌≡◌, take}
use Rattle.std.specs.BTreeSet.{contains}
use Rattle.oci_manifest.specs.Descriptor.{Descriptor, key_cmp, is_among}
use Rattle.oci_store.proofs.graph.predecessors.set_of.Given as goal

-- the set has the keys so far
abbrev pub invariant-loop-key : goal.invariant-loop-key
invariant-loop-key l = (other : Descriptor) → contains key_cmp l.set other ≡ is_among (take l.key-index l.keys) other
