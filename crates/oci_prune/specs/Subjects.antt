-- The subjects of manifests.
use Rattle.std.specs.Prelude.{◌≡◌, ◌↔◌, ◌⊎◌, ℕ, true, false, List, [], Option, Some, None, Err, Contains}
use Rattle.std.specs.Global.{Vec}
use Rattle.std.specs.BTreeMap.{BTreeMap, get}
use Rattle.std.specs.Cmp.Lexicographic.{slice_cmp}
use Rattle.std.specs.Option.{option_map_or}
use Rattle.std.specs.Ordering.{nat_cmp}
use Rattle.oci_manifest.specs.Descriptor.{Descriptor}
use Rattle.oci_manifest.specs.Fault.{Fault, IsFault}
use Rattle.oci_manifest.specs.MediaTypes.{kind_of}
use Rattle.oci_manifest.specs.Subject.{HasSubject, may_refer, subject_of}
use Rattle.oci_manifest.specs.declared.fault.ManifestFault.{ManifestFault}
use Rattle.oci_store.specs.Content.{Entry, Matches}
use Rattle.oci_store.specs.Keyed.{value_at, has_key}
use Rattle.oci_store.specs.State.{State}
use Rattle.oci_store.specs.declared.fault.FetchFault.{FetchFault}
use Rattle.oci_store.specs.declared.fault.FetchFault.TheVariants as fetch
use Rattle.oci_layout_store.specs.declared.fault.LayoutFault.TheVariants as layout
use Rattle.oci_prune_fault.specs.declared.fault.PruneFault.{PruneFault}
use Rattle.oci_prune_fault.specs.declared.fault.PruneFault.TheVariants as fault

-- the bytes of the first key, which is held, state the second as their subject
abbrev pub States : List Entry → Descriptor → Descriptor → Type 0
States entries k subject = (bytes : List ℕ) × (value_at entries k ≡ Some bytes) × HasSubject (kind_of k.media_type) bytes subject

-- the first key states a subject that has the digest of the second
abbrev pub RefersIn : (Descriptor → Descriptor → Type 0) → Descriptor → Descriptor → Type 0
RefersIn states k subject = (stated : Descriptor) × states k stated × (stated.digest ≡ subject.digest)

-- The first key, which is held, refers to the second: it states a subject of its digest. A subject of
-- the same digest with another media type or size can mean nothing else.
abbrev pub Refers : List Entry → Descriptor → Descriptor → Type 0
Refers entries k subject = RefersIn (States entries) k subject

-- the keys that refer to the keys of each digest
abbrev pub Referrers : Type 0
Referrers = BTreeMap (List ℕ) (Vec Descriptor)

-- the keys that refer to a key by the map
abbrev pub referrers_in : Referrers → Descriptor → List Descriptor
referrers_in referrers k = option_map_or (λ keys. keys.items) (get (slice_cmp nat_cmp) referrers k.digest) []

-- the first key refers to the second by the map
abbrev pub RefersBy : Referrers → Descriptor → Descriptor → Type 0
RefersBy referrers referrer subject = Contains (referrers_in referrers subject) referrer

-- the map has those of these keys that state a subject, under the digests of their subjects
abbrev pub AreReferrers : (Descriptor → Descriptor → Type 0) → List Descriptor → Referrers → Type 0
AreReferrers states keys referrers = (k subject : Descriptor) → RefersBy referrers k subject ↔ (Contains keys k × RefersIn states k subject)

-- the map has the first key of each pair, under the digest of the second
abbrev pub HasPairs : List (Descriptor × Descriptor) → Referrers → Type 0
HasPairs pairs referrers = (k subject : Descriptor) → RefersBy referrers k subject ↔ RefersIn (λ j stated. Contains pairs (j, stated)) k subject

-- a key was added to the map under a digest
abbrev pub IsAdded : Descriptor → List ℕ → Referrers → Referrers → Type 0
IsAdded k digest old new = (other subject : Descriptor) → RefersBy new other subject ↔ (RefersBy old other subject ⊎ ((k ≡ other) × (digest ≡ subject.digest)))

-- a key was added to the map under the digest of its subject, if it has one
abbrev pub IsNoted : Descriptor → Option Descriptor → Referrers → Referrers → Type 0
IsNoted k None old new = new ≡ old
IsNoted k (Some subject) old new = IsAdded k subject.digest old new

-- a fetch of the key is refused: it is not held, or its bytes could not be read; a sound store is
-- never called corrupt
abbrev pub IsRefusedFetch : State → Descriptor → FetchFault → Type 0
IsRefusedFetch store k fetch.NotFound = has_key store.entries k ≡ false
IsRefusedFetch store k fetch.Corrupt = (store.fails_at k ≡ true) × (store.is_sound → ⊥)
IsRefusedFetch store k fetch.Device = store.fails_at k ≡ true
IsRefusedFetch store k fetch.Memory = ⊥

-- bytes that match the key break the rule that the fault names
abbrev pub IsUnread : State → Descriptor → ManifestFault → Type 0
IsUnread store k e = (bytes : List ℕ) × (cause : Fault) × Matches k bytes × (store.is_honest → value_at store.entries k ≡ Some bytes) × (subject_of (kind_of k.media_type) bytes ≡ Err cause) × IsFault e cause

-- why the subject of one of these keys, which may state one, was not read
abbrev pub IsSubjectFault : State → (Descriptor → Type 0) → PruneFault → Type 0
IsSubjectFault store is_one (fault.Fetch k e) = is_one k × (may_refer (kind_of k.media_type) ≡ true) × IsRefusedFetch store k e
IsSubjectFault store is_one (fault.Layout (layout.BadManifest k e)) = is_one k × IsUnread store k e
IsSubjectFault store is_one fault.Memory = Unit {0}
IsSubjectFault store is_one other = ⊥
