-- The layers that manifests list and that are not distributed (OCI image-spec 1.1, layer.md,
-- "Non-Distributable Layers"). No key lists them in the graph, and nothing copies them.
use Rattle.std.specs.Prelude.{◌≡◌, ◌⊎◌, ◌↔◌, ℕ, Bool, true, List, Option, None, Some, Err, Contains}
use Rattle.std.specs.BTreeSet.{BTreeSet, contains}
use Rattle.std.specs.List.Sorted.{IsStrictlySortedBy}
use Rattle.oci_manifest.specs.Descriptor.{Descriptor, key_cmp}
use Rattle.oci_manifest.specs.Fault.{Fault, IsFault}
use Rattle.oci_manifest.specs.MediaTypes.{kind_of}
use Rattle.oci_manifest.specs.Undistributed.{ReadsAside, undistributed_of}
use Rattle.oci_manifest.specs.declared.fault.ManifestFault.{ManifestFault}
use Rattle.oci_store.specs.Content.{Entry, Matches}
use Rattle.oci_store.specs.Graph.{Node, IsEdge, Reaches}
use Rattle.oci_store.specs.Keyed.{value_at, has_key}
use Rattle.oci_store.specs.State.{State}
use Rattle.oci_layout_store.specs.Layout.{is_manifest}
use Rattle.oci_layout_store.specs.declared.fault.LayoutFault.TheVariants as layout
use Rattle.oci_prune.specs.Subjects.{IsRefusedFetch}
use Rattle.oci_prune_fault.specs.declared.fault.PruneFault.{PruneFault}
use Rattle.oci_prune_fault.specs.declared.fault.PruneFault.TheVariants as fault

-- the bytes of the first key, which is held, list the second, and it is not distributed
abbrev pub ListsAside : List Entry → Descriptor → Descriptor → Type 0
ListsAside entries from k = (bytes : List ℕ) × (keys : List Descriptor) × (value_at entries from ≡ Some bytes) × ReadsAside (kind_of from.media_type) bytes keys × Contains keys k

-- the first key lists the second, be it distributed or not
abbrev pub Lists : List Node → List Entry → Descriptor → Descriptor → Type 0
Lists graph entries from k = IsEdge graph from k ⊎ ListsAside entries from k

-- a held key that the given keys reach lists the key, which is not distributed: a copy passes over it
abbrev pub IsPassedOver : List Node → List Entry → List Descriptor → Descriptor → Type 0
IsPassedOver graph entries keys k = (from : Descriptor) × Reaches graph keys from × ListsAside entries from k

-- these are all the keys that a copy of the given ones passes over, in key order
pub record ArePassedOver (graph : List Node) (entries : List Entry) (keys passed : List Descriptor) : Type 0 where
  pub each : (k : Descriptor) → Contains passed k ↔ IsPassedOver graph entries keys k
  pub order : IsStrictlySortedBy key_cmp passed

-- whether a key is one of a set, or any key
abbrev pub is_one_of : Option (BTreeSet Descriptor) → Descriptor → Bool
is_one_of None k = true
is_one_of (Some keys) k = contains key_cmp keys k

-- one of the keys that pass a test lists the key, which is not distributed
abbrev pub IsAside : (Descriptor → Bool) → List Entry → Descriptor → Type 0
IsAside is_one entries k = (from : Descriptor) × (is_one from ≡ true) × ListsAside entries from k

-- these are all such keys
abbrev pub AreAside : (Descriptor → Bool) → List Entry → List Descriptor → Type 0
AreAside is_one entries keys = (k : Descriptor) → Contains keys k ↔ IsAside is_one entries k

-- these are the second keys of the pairs whose first passes a test
abbrev pub ArePicked : (Descriptor → Bool) → List (Descriptor × Descriptor) → List Descriptor → Type 0
ArePicked is_one pairs keys = (k : Descriptor) → Contains keys k ↔ ((from : Descriptor) × (is_one from ≡ true) × Contains pairs (from, k))

-- these are the keys that one of the given keys lists and that are not distributed
abbrev pub AreListedAside : List Entry → List Descriptor → List Descriptor → Type 0
AreListedAside entries keys listed = (k : Descriptor) → Contains listed k ↔ ((from : Descriptor) × Contains keys from × ListsAside entries from k)

-- bytes that match the key break the rule that the fault names
abbrev pub IsUnreadAside : State → Descriptor → ManifestFault → Type 0
IsUnreadAside store k e = (bytes : List ℕ) × (cause : Fault) × Matches k bytes × (store.is_honest → value_at store.entries k ≡ Some bytes) × (undistributed_of (kind_of k.media_type) bytes ≡ Err cause) × IsFault e cause

-- why the layers of one of these keys, which is of a manifest kind, were not read
abbrev pub IsAsideFault : State → (Descriptor → Type 0) → PruneFault → Type 0
IsAsideFault store is_one (fault.Fetch k e) = is_one k × (is_manifest (kind_of k.media_type) ≡ true) × IsRefusedFetch store k e
IsAsideFault store is_one (fault.Layout (layout.BadManifest k e)) = is_one k × IsUnreadAside store k e
IsAsideFault store is_one fault.Memory = Unit {0}
IsAsideFault store is_one other = ⊥
