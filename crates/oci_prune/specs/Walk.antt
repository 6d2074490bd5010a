-- The walk to the keys that belong to some keys.
use Rattle.std.specs.Prelude.{◌≡◌, ◌↔◌, ◌⊎◌, ℕ, ◌<◌, Bool, true, false, List, Some, Contains, slice_get}
use Rattle.std.specs.BTreeSet.{BTreeSet, contains}
use Rattle.oci_manifest.specs.Descriptor.{Descriptor, key_cmp}
use Rattle.oci_manifest.specs.MediaTypes.{kind_of}
use Rattle.oci_manifest.specs.declared.kind.Kind.TheVariants.{Leaf}
use Rattle.oci_store.specs.Graph.{Node}
use Rattle.oci_store.specs.Keyed.{has_key}
use Rattle.oci_prune.specs.Belongs.{Needs, IsNeeded}

-- the keys found keep their places, and those that a held key needs were added
pub record IsVisit (graph : List Node) (attached : Descriptor → Descriptor → Type 0) (visited : Descriptor) (old new : List Descriptor) : Type 0 where
  pub stays : (place : ℕ) (k : Descriptor) → slice_get old place ≡ Some k → slice_get new place ≡ Some k
  pub each : (k : Descriptor) → Contains new k ↔ (Contains old k ⊎ ((has_key graph visited ≡ true) × Needs graph attached visited k))

-- the key was added to the members if it is held
abbrev pub KeepsHeld : List Node → Descriptor → BTreeSet Descriptor → BTreeSet Descriptor → Type 0
KeepsHeld graph visited old new = (k : Descriptor) → (contains key_cmp new k ≡ true) ↔ ((contains key_cmp old k ≡ true) ⊎ ((k ≡ visited) × (has_key graph k ≡ true)))

-- one key was added to a set
abbrev pub HasOneMore : Descriptor → BTreeSet Descriptor → BTreeSet Descriptor → Type 0
HasOneMore added old new = (k : Descriptor) → (contains key_cmp new k ≡ true) ↔ ((contains key_cmp old k ≡ true) ⊎ (k ≡ added))

-- how far the walk from these keys is: the first `place` keys found were visited, and, if absent
-- manifests are refused, none of them is one
pub record IsWalking (graph : List Node) (keys : List Descriptor) (attached : Descriptor → Descriptor → Type 0) (refuses : Bool) (found : List Descriptor) (set : BTreeSet Descriptor) (place : ℕ) : Type 0 where
  pub has_keys : (k : Descriptor) → Contains keys k → Contains found k
  pub needed : (k : Descriptor) → Contains found k → IsNeeded graph keys attached k
  pub visited : (i : ℕ) (from k : Descriptor) → i < place → slice_get found i ≡ Some from → has_key graph from ≡ true → Needs graph attached from k → Contains found k
  pub known : refuses ≡ true → (i : ℕ) (k : Descriptor) → i < place → slice_get found i ≡ Some k → has_key graph k ≡ false → kind_of k.media_type ≡ Leaf
  pub kept : (k : Descriptor) → (contains key_cmp set k ≡ true) ↔ ((i : ℕ) × (i < place) × (slice_get found i ≡ Some k) × (has_key graph k ≡ true))
