-- What is attached to keys, if only some types are wanted of what is attached to what the keys reach
-- (OCI image-spec 1.1, manifest.md, `artifactType`; OCI distribution-spec 1.1, "Listing Referrers").
use Rattle.std.specs.Prelude.{◌≡◌, ℕ, true, List, map, Option, Some, Contains}
use Rattle.std.specs.BTreeSet.{BTreeSet, contains}
use Rattle.std.specs.Cmp.Lexicographic.{slice_cmp}
use Rattle.std.specs.Ordering.{nat_cmp}
use Rattle.oci_manifest.specs.ArtifactType.{artifact_type_of}
use Rattle.oci_manifest.specs.Descriptor.{Descriptor}
use Rattle.oci_manifest.specs.MediaTypes.{kind_of}
use Rattle.oci_manifest.specs.declared.kind.Kind.{Kind}
use Rattle.oci_store.specs.Content.{Entry}
use Rattle.oci_store.specs.Graph.{Node, Reaches}
use Rattle.oci_store.specs.Keyed.{value_at, has_key}
use Rattle.oci_store.specs.State.{State}
use Rattle.oci_prune.specs.Plan.{HasDigestIn}
use Rattle.oci_prune.specs.Subjects.{Refers, States}
use Rattle.oci_prune.specs.declared.type_filter.TypeFilter.{TypeFilter}
use Rattle.oci_prune.specs.declared.type_filter.TypeFilter.TheVariants as filter

-- the declared type is one of these
abbrev pub IsOneOf : List (List ℕ) → Option (List ℕ) → Type 0
IsOneOf types declared = (type : List ℕ) × (declared ≡ Some type) × Contains types type

-- the bytes of the key, which is held, declare one of these types
abbrev pub IsOfTypes : List Entry → List (List ℕ) → Descriptor → Type 0
IsOfTypes entries types k = (bytes : List ℕ) × (value_at entries k ≡ Some bytes) × IsOneOf types (artifact_type_of (kind_of k.media_type) bytes)

-- one of the held keys that the given keys reach has the digest
abbrev pub IsReachedDigest : List Node → List Descriptor → List ℕ → Type 0
IsReachedDigest graph keys digest = HasDigestIn (λ k. Reaches graph keys k × (has_key graph k ≡ true)) digest

-- The first key refers to the second. If the given keys reach the digest of the second, the first is of
-- one of these types. What is attached to a referrer may be of any type, such as its signature.
pub record RefersByTypes (store : State) (keys : List Descriptor) (types : List (List ℕ)) (k subject : Descriptor) : Type 0 where
  pub refers : Refers store.entries k subject
  pub typed : IsReachedDigest store.nodes keys subject.digest → IsOfTypes store.entries types k

-- ---- filters

-- bytes of a kind that state a subject pass a filter
abbrev pub Passes : TypeFilter → Kind → List ℕ → Descriptor → Type 0
Passes filter.AnyType kind bytes subject = Unit {0}
Passes (filter.OneOf subjects types) kind bytes subject = contains (slice_cmp nat_cmp) subjects.now subject.digest ≡ true → IsOneOf (map (λ t. t.now) types.now) (artifact_type_of kind bytes)

-- the first key, which is held, states the second as its subject; and if that has one of these digests,
-- the first is of one of these types
abbrev pub StatesOfTypes : List Entry → BTreeSet (List ℕ) → List (List ℕ) → Descriptor → Descriptor → Type 0
StatesOfTypes entries digests types k subject = States entries k subject × (contains (slice_cmp nat_cmp) digests subject.digest ≡ true → IsOfTypes entries types k)

-- the first key, which is held, states the second as its subject, and passes a filter
abbrev pub StatesBy : List Entry → TypeFilter → Descriptor → Descriptor → Type 0
StatesBy entries filter.AnyType k subject = States entries k subject
StatesBy entries (filter.OneOf subjects types) k subject = StatesOfTypes entries subjects.now (map (λ t. t.now) types.now) k subject
