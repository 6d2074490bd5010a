use Rattle.std.proofs.Common.{◌≡◌, filter, take}
use Rattle.std.specs.BTreeSet.{contains}
use Rattle.oci_manifest.specs.Descriptor.{Descriptor, key_cmp}
use Rattle.oci_prune.proofs.belonging.keys_within.Given as goal

-- as far as the loop has come
abbrev pub invariant-loop-key : goal.invariant-loop-key
invariant-loop-key l = l.within.items ≡ filter (λ (k : Descriptor). contains key_cmp l.set k) (take l.key-index l.keys)
