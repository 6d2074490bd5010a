-- Keys in order of arrival, with an index from each key to its place.
use Rattle.std.specs.Prelude.{◌≡◌, ◌↔◌, ℕ, List, Some, slice_get}
use Rattle.std.specs.BTreeMap.{BTreeMap, get}
use Rattle.oci_manifest.specs.Descriptor.{Descriptor, key_cmp}

-- the index has the place of each key, and no other entry
abbrev pub IsIndexOf : BTreeMap Descriptor ℕ → List Descriptor → Type 0
IsIndexOf index keys = (k : Descriptor) (place : ℕ) → (get key_cmp index k ≡ Some place) ↔ (slice_get keys place ≡ Some k)
