-- The keys that a manifest's bytes list, and the rules that they break, as relations (OCI
-- image-spec 1.1, manifest.md, image-index.md and descriptor.md).
use Rattle.std.specs.Prelude.{◌≡◌, ℕ, ◌<◌, ◌^◌, Bool, not, List, [], ◌∷◌, ◌++◌, length, codes, Option, Some, None, MatchOption, ◌⊎◌, filter, IsUtf8}
use Rattle.std.specs.List.{AllZip}
use Rattle.serde_json.specs.Data.{Data, null, string, number, unsigned, array, object, Members}
use Rattle.serde_json.specs.Find.{get}
use Rattle.serde_json.specs.Read.{read}
use Rattle.serde_json.specs.View.{items_of}
use Rattle.oci_digest.specs.Digest.{IsDigest}
use Rattle.oci_manifest.specs.Descriptor.{Descriptor, same_key}
use Rattle.oci_manifest.specs.MediaTypes.{is_undistributed}
use Rattle.oci_manifest.specs.Fault.{Fault, not_json, not_object, no_config, bad_list, bad_descriptor}
use Rattle.oci_manifest.specs.declared.kind.Kind.{Kind}
use Rattle.oci_manifest.specs.declared.kind.Kind.TheVariants.{Image, Index, DockerImage, DockerList, Artifact, Leaf}

-- ---- descriptors

-- a JSON value is the descriptor k: it has a text `mediaType`, a text `digest` that is a digest,
-- and a `size` that is written as a whole number below 2^63 (descriptor.md, "Properties")
pub record IsDescriptor (value : Data) (k : Descriptor) : Type 0 where
  pub media_type : get (codes "mediaType") value ≡ Some (string k.media_type)
  pub digest : get (codes "digest") value ≡ Some (string k.digest)
  pub is_digest : IsDigest k.digest
  pub size : get (codes "size") value ≡ Some (number (unsigned k.size))
  pub fits : k.size < 2 ^ 63

-- a JSON value is not a descriptor
abbrev pub NoDescriptor : Data → Type 0
NoDescriptor value = (k : Descriptor) → IsDescriptor value k → ⊥

-- ---- members

-- a member with successors: its name, and whether it has at most one descriptor, exactly one, or a
-- list of them
pub data Field : Type 0 where
  optional : List ℕ → Field
  required : List ℕ → Field
  listed : List ℕ → Field

-- the members of a kind that have successors, in order (manifest.md and image-index.md, "Property
-- Descriptions")
abbrev pub fields_of : Kind → List Field
fields_of Image = optional (codes "subject") ∷ required (codes "config") ∷ listed (codes "layers") ∷ []
fields_of Index = optional (codes "subject") ∷ listed (codes "manifests") ∷ []
fields_of DockerImage = required (codes "config") ∷ listed (codes "layers") ∷ []
fields_of DockerList = listed (codes "manifests") ∷ []
fields_of Artifact = optional (codes "subject") ∷ listed (codes "blobs") ∷ []
fields_of Leaf = []

-- a null member counts as absent
abbrev pub present : Option Data → Option Data
present (Some null) = None
present found = found

-- the member with this name, if it is present
abbrev pub member_of : Data → List ℕ → Option Data
member_of manifest name = present (get name manifest)

-- the keys of a member: that of its single descriptor, or of the elements of its list, in order
abbrev pub Holds : Data → Field → List Descriptor → Type 0
Holds manifest (optional name) ks = MatchOption (member_of manifest name) (ks ≡ []) (λ d. (k : Descriptor) × IsDescriptor d k × (ks ≡ k ∷ []))
Holds manifest (required name) ks = MatchOption (member_of manifest name) ⊥ (λ d. (k : Descriptor) × IsDescriptor d k × (ks ≡ k ∷ []))
Holds manifest (listed name) ks = MatchOption (member_of manifest name) (ks ≡ []) (λ d. (ds : List Data) × (d ≡ array (items_of ds)) × AllZip IsDescriptor ds ks)

-- the keys of these members, in order
abbrev pub HoldsAll : Data → List Field → List Descriptor → Type 0
HoldsAll manifest [] ks = ks ≡ []
HoldsAll manifest (f ∷ fs) ks = (front : List Descriptor) × (rest : List Descriptor) × Holds manifest f front × HoldsAll manifest fs rest × (ks ≡ front ++ rest)

-- ---- listed keys

-- the keys of a list, each once, at its first place
abbrev pub first_places : List Descriptor → List Descriptor
first_places [] = []
first_places (k ∷ ks) = k ∷ filter (λ other. not (same_key k other)) (first_places ks)

-- whether a key's media type is distributed
abbrev pub is_distributed : Descriptor → Bool
is_distributed k = not (is_undistributed k.media_type)

-- the keys of a list that are distributed, each once, at its first place
abbrev pub distributed_once : List Descriptor → List Descriptor
distributed_once keys = first_places (filter is_distributed keys)

-- a JSON value is an object with these successors: the keys of its members that are distributed,
-- each once
pub record Lists (kind : Kind) (manifest : Data) (successors : List Descriptor) : Type 0 where
  pub members : Members
  pub is_object : manifest ≡ object members
  pub keys : List Descriptor
  pub holds : HoldsAll manifest (fields_of kind) keys
  pub once : successors ≡ distributed_once keys

-- the bytes are the UTF-8 of a JSON text (RFC 8259) with this value, which `serde_json` reads; a
-- text that nests deeper than 127, or has a number too large for a float, such as 1e400, has no
-- reading
abbrev pub HasReading : List ℕ → Data → Type 0
HasReading bytes value = IsUtf8 bytes × (read bytes ≡ Some value)

-- bytes of a kind read, and list these successors; a leaf lists none, whatever its bytes
abbrev pub Reads : Kind → List ℕ → List Descriptor → Type 0
Reads Leaf bytes successors = successors ≡ []
Reads kind bytes successors = (value : Data) × HasReading bytes value × Lists kind value successors

-- ---- errors

-- A member breaks this rule: it is not a descriptor; or it is required and absent; or it must be a
-- list and is not one; or its first element that is not a descriptor is at the position.
abbrev pub FaultOf : Data → Field → Fault → Type 0
FaultOf manifest (optional name) f = MatchOption (member_of manifest name) ⊥ (λ d. NoDescriptor d × (f ≡ bad_descriptor name 0))
FaultOf manifest (required name) f = MatchOption (member_of manifest name) (f ≡ no_config) (λ d. NoDescriptor d × (f ≡ bad_descriptor name 0))
FaultOf manifest (listed name) f = MatchOption (member_of manifest name) ⊥ (λ d. (((ds : List Data) → d ≡ array (items_of ds) → ⊥) × (f ≡ bad_list name))
    ⊎ ((front : List Data) × (bad : Data) × (rest : List Data) × (ks : List Descriptor) × (d ≡ array (items_of (front ++ bad ∷ rest)))
    × AllZip IsDescriptor front ks × NoDescriptor bad × (f ≡ bad_descriptor name (length front))))

-- the first of these members that breaks a rule breaks this one; the members before it have keys
abbrev pub FirstFault : Data → List Field → Fault → Type 0
FirstFault manifest [] f = ⊥
FirstFault manifest (m ∷ ms) f = FaultOf manifest m f ⊎ ((ks : List Descriptor) × Holds manifest m ks × FirstFault manifest ms f)

-- the first rule that bytes of a kind break: they have no reading, their value is not an object, or
-- a member breaks a rule
abbrev pub Breaks : Kind → List ℕ → Fault → Type 0
Breaks Leaf bytes f = ⊥
Breaks kind bytes f = (((value : Data) → HasReading bytes value → ⊥) × (f ≡ not_json))
    ⊎ ((value : Data) × HasReading bytes value × ((members : Members) → value ≡ object members → ⊥) × (f ≡ not_object))
    ⊎ ((value : Data) × HasReading bytes value × (members : Members) × (value ≡ object members) × FirstFault value (fields_of kind) f)
