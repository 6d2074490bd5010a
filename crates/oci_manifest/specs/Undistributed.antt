-- The keys of layers that a manifest lists and that are not distributed (OCI image-spec 1.1, layer.md,
-- "Non-Distributable Layers").
use Rattle.std.specs.Prelude.{◌≡◌, ℕ, List, [], filter, Result, Ok}
use Rattle.serde_json.specs.Data.{Data, object, Members}
use Rattle.oci_manifest.specs.Descriptor.{Descriptor}
use Rattle.oci_manifest.specs.Fault.{Fault}
use Rattle.oci_manifest.specs.Manifest.{fields_of, HasReading, HoldsAll}
use Rattle.oci_manifest.specs.MediaTypes.{is_undistributed}
use Rattle.oci_manifest.specs.Reading.{◌>>=◌, manifest_keys}
use Rattle.oci_manifest.specs.declared.kind.Kind.{Kind}
use Rattle.oci_manifest.specs.declared.kind.Kind.TheVariants.{Leaf}

-- those of these keys that are not distributed
abbrev pub undistributed_in : List Descriptor → List Descriptor
undistributed_in keys = filter (λ k. is_undistributed k.media_type) keys

-- a JSON value is an object of this kind, and these keys of its members are not distributed
pub record ListsAside (kind : Kind) (manifest : Data) (aside : List Descriptor) : Type 0 where
  pub members : Members
  pub is_object : manifest ≡ object members
  pub keys : List Descriptor
  pub holds : HoldsAll manifest (fields_of kind) keys
  pub only : aside ≡ undistributed_in keys

-- bytes of a kind read, and list these keys that are not distributed; a leaf lists none
abbrev pub ReadsAside : Kind → List ℕ → List Descriptor → Type 0
ReadsAside Leaf bytes aside = aside ≡ []
ReadsAside kind bytes aside = (value : Data) × HasReading bytes value × ListsAside kind value aside

-- the keys that a content lists and that are not distributed, or the first rule that it breaks
unfoldable pub undistributed_of : Kind → List ℕ → Result (List Descriptor) Fault
undistributed_of Leaf bytes = Ok []
undistributed_of kind bytes = manifest_keys kind bytes >>= λ keys. Ok (undistributed_in keys)
