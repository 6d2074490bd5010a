-- The type that a manifest declares (OCI distribution-spec 1.1, "Listing Referrers"; OCI image-spec
-- 1.1, manifest.md and image-index.md, `artifactType`).
use Rattle.std.specs.Prelude.{◌≡◌, ◌≢◌, ◌⊎◌, ℕ, ◌==◌, List, [], length, codes, Option, Some, None, option_and_then, if◌then◌else◌}
use Rattle.std.specs.Option.{option_or}
use Rattle.serde_json.specs.Data.{Data, string}
use Rattle.serde_json.specs.Find.{get}
use Rattle.oci_manifest.specs.Manifest.{HasReading}
use Rattle.oci_manifest.specs.Reading.{text_at, reading}
use Rattle.oci_manifest.specs.declared.kind.Kind.{Kind}
use Rattle.oci_manifest.specs.declared.kind.Kind.TheVariants.{Image, DockerImage, Leaf}

-- a JSON value has a text under this name, which is not empty
abbrev pub HasText : Data → List ℕ → List ℕ → Type 0
HasText value name text = (get name value ≡ Some (string text)) × (text ≢ [])

-- the `config` of an image has this media type; manifests of other kinds have no `config`
abbrev pub HasConfigType : Kind → Data → List ℕ → Type 0
HasConfigType Image manifest type = (config : Data) × (get (codes "config") manifest ≡ Some config) × HasText config (codes "mediaType") type
HasConfigType DockerImage manifest type = (config : Data) × (get (codes "config") manifest ≡ Some config) × HasText config (codes "mediaType") type
HasConfigType kind manifest type = ⊥

-- a manifest of this kind has this `artifactType`, or has none, and this media type of its `config`
abbrev pub HasType : Kind → Data → List ℕ → Type 0
HasType kind manifest type = HasText manifest (codes "artifactType") type
    ⊎ (((other : List ℕ) → HasText manifest (codes "artifactType") other → ⊥) × HasConfigType kind manifest type)

-- bytes of a kind declare a type; a leaf declares none
pub record DeclaresType (kind : Kind) (bytes : List ℕ) (type : List ℕ) : Type 0 where
  pub is_manifest : kind ≢ Leaf
  pub manifest : Data
  pub reads : HasReading bytes manifest
  pub has : HasType kind manifest type

-- a text, unless it is empty
abbrev pub not_empty : List ℕ → Option (List ℕ)
not_empty text = if length text == 0 then None else Some text

-- the text of the member with this name, unless it is empty
abbrev pub type_at : List ℕ → Data → Option (List ℕ)
type_at name value = option_and_then not_empty (text_at name value)

-- the media type of an image's `config`
unfoldable pub config_type : Kind → Data → Option (List ℕ)
config_type Image manifest = option_and_then (type_at (codes "mediaType")) (get (codes "config") manifest)
config_type DockerImage manifest = option_and_then (type_at (codes "mediaType")) (get (codes "config") manifest)
config_type kind manifest = None

-- the type that a manifest declares: its `artifactType`, or else the media type of its `config`
unfoldable pub stated_type : Kind → Data → Option (List ℕ)
stated_type kind manifest = option_or (type_at (codes "artifactType") manifest) (config_type kind manifest)

-- the type that bytes of a kind declare; none, if the kind is a leaf or the bytes are not JSON
unfoldable pub artifact_type_of : Kind → List ℕ → Option (List ℕ)
artifact_type_of Leaf bytes = None
artifact_type_of kind bytes = option_and_then (stated_type kind) (reading bytes)
