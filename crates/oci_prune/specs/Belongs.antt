-- What belongs to keys: a copy brings it, and a prune keeps it.
use Rattle.std.specs.Prelude.{◌≡◌, ◌≢◌, ◌⊎◌, ◌↔◌, true, false, List, Contains}
use Rattle.std.specs.BTreeSet.{BTreeSet, contains}
use Rattle.oci_manifest.specs.Descriptor.{Descriptor, key_cmp}
use Rattle.oci_manifest.specs.MediaTypes.{kind_of}
use Rattle.oci_manifest.specs.declared.kind.Kind.TheVariants.{Leaf}
use Rattle.oci_store.specs.Graph.{Node, IsEdge}
use Rattle.oci_store.specs.Keyed.{has_key}

-- a key needs the keys that it lists, and the keys that are attached to it
abbrev pub Needs : List Node → (Descriptor → Descriptor → Type 0) → Descriptor → Descriptor → Type 0
Needs graph attached k other = IsEdge graph k other ⊎ attached other k

-- a held key belongs to the given keys if it is one of them, or if a key that belongs to them needs
-- it
pub data Belongs (graph : List Node) (keys : List Descriptor) (attached : Descriptor → Descriptor → Type 0) : Descriptor → Type 0 where
  given : {k : Descriptor} → Contains keys k → has_key graph k ≡ true → Belongs graph keys attached k
  needed : {from k : Descriptor} → Belongs graph keys attached from → Needs graph attached from k → has_key graph k ≡ true → Belongs graph keys attached k

-- the key is one of the given keys, or a key that belongs to them needs it; it need not be held
abbrev pub IsNeeded : List Node → List Descriptor → (Descriptor → Descriptor → Type 0) → Descriptor → Type 0
IsNeeded graph keys attached k = Contains keys k ⊎ ((from : Descriptor) × Belongs graph keys attached from × Needs graph attached from k)

-- the key is needed and absent, and of a manifest kind, so that nobody knows what it lists
pub record IsUnknown (graph : List Node) (keys : List Descriptor) (attached : Descriptor → Descriptor → Type 0) (k : Descriptor) : Type 0 where
  pub needed : IsNeeded graph keys attached k
  pub absent : has_key graph k ≡ false
  pub is_manifest : kind_of k.media_type ≢ Leaf

-- the set has the keys that belong to the given ones, and no other
abbrev pub AreMembers : List Node → List Descriptor → (Descriptor → Descriptor → Type 0) → BTreeSet Descriptor → Type 0
AreMembers graph keys attached set = (k : Descriptor) → (contains key_cmp set k ≡ true) ↔ Belongs graph keys attached k

-- no needed key is unknown
abbrev pub AllKnown : List Node → List Descriptor → (Descriptor → Descriptor → Type 0) → Type 0
AllKnown graph keys attached = (k : Descriptor) → IsUnknown graph keys attached k → ⊥
