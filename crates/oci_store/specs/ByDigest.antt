-- Keys in the order of their digests.
use Rattle.std.specs.Prelude.{◌≡◌, Bool, ◌&&◌, ◌==◌, List}
use Rattle.std.specs.BTreeSet.{BTreeSet, contains}
use Rattle.std.specs.Cmp.Lexicographic.{slice_cmp}
use Rattle.std.specs.declared.cmp.Ordering.{Ordering}
use Rattle.std.specs.Ordering.{nat_cmp, on, then_cmp}
use Rattle.std.specs.Str.{bytes_eq}
use Rattle.oci_manifest.specs.Descriptor.{Descriptor}
use Rattle.oci_store.specs.Graph.{Node}
use Rattle.oci_store.specs.Keyed.{has_key}

-- the order of keys by digest text, then by the bytes of the media type, then by size
abbrev pub digest_cmp : Descriptor → Descriptor → Ordering
digest_cmp = then_cmp (then_cmp (on (λ k. k.digest) (slice_cmp nat_cmp)) (on (λ k. k.media_type) (slice_cmp nat_cmp))) (on (λ k. k.size) nat_cmp)

-- whether two keys are the same, compared in the order of these parts
abbrev pub same_by_digest : Descriptor → Descriptor → Bool
same_by_digest a b = bytes_eq a.digest b.digest && bytes_eq a.media_type b.media_type && a.size == b.size

-- the set has the keys of the graph
abbrev pub AreKeysOf : List Node → BTreeSet Descriptor → Type 0
AreKeysOf graph keys = (k : Descriptor) → contains digest_cmp keys k ≡ has_key graph k
