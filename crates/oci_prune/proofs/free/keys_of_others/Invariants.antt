use Rattle.std.proofs.Common.{◌≡◌, not, filter, take}
use Rattle.std.specs.BTreeSet.{contains}
use Rattle.std.specs.Cmp.Lexicographic.{slice_cmp}
use Rattle.std.specs.Ordering.{nat_cmp}
use Rattle.oci_manifest.specs.Descriptor.{Descriptor}
use Rattle.oci_prune.proofs.free.keys_of_others.Given as goal

-- as far as the loop has come
abbrev pub invariant-loop-key : goal.invariant-loop-key
invariant-loop-key l = l.others.items ≡ filter (λ (k : Descriptor). not (contains (slice_cmp nat_cmp) l.digests k.digest)) (take l.key-index l.keys)
