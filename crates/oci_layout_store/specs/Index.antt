-- The files that make a directory an image layout (OCI image specification 1.1, image-layout.md).
use Rattle.std.specs.Prelude.{◌≡◌, ℕ, false, List, map, codes, Option, Some, option_and_then}
use Rattle.serde_json.specs.Data.{Data, object, array, string, number, unsigned, put}
use Rattle.serde_json.specs.Find.{get, as_str}
use Rattle.serde_json.specs.View.{items_of}
use Rattle.serde_json.specs.Written.{compact_text, has_float}
use Rattle.oci_manifest.specs.Descriptor.{Descriptor}
use Rattle.oci_manifest.specs.Reading.{reading}
use Rattle.oci_store.specs.Graph.{Node}
use Rattle.oci_store.specs.Tags.{Tags}
use Rattle.oci_dir.specs.Device.{File}
use Rattle.oci_layout_store.specs.Entries.{IndexEntry, IndexContent, said}
use Rattle.oci_layout_store.specs.Layout.{OpenedIndex}
use Rattle.oci_layout_store.specs.Saved.{AreLoose, saved_content}

-- the names of the two files, as bytes
unfoldable pub layout_file : List ℕ
layout_file = codes "oci-layout"

unfoldable pub index_file : List ℕ
index_file = codes "index.json"

-- the text of a new `oci-layout`, and the version that it states
unfoldable pub layout_text : List ℕ
layout_text = codes "{\"imageLayoutVersion\":\"1.0.0\"}"

unfoldable pub layout_version : List ℕ
layout_version = codes "1.0.0"

-- the version that bytes state: the text `imageLayoutVersion` of their JSON object
unfoldable pub version_in : List ℕ → Option (List ℕ)
version_in bytes = option_and_then as_str (option_and_then (get (codes "imageLayoutVersion")) (reading bytes))

-- the text of an index without entries
unfoldable pub empty_index_text : List ℕ
empty_index_text = codes "{\"manifests\":[],\"mediaType\":\"application/vnd.oci.image.index.v1+json\",\"schemaVersion\":2}"

-- the index with these entries and members; it has the media type and the version of an index
unfoldable pub index_value : IndexContent → Data
index_value c = object (put (codes "manifests") (array (items_of (map (λ (e : IndexEntry). e.value) c.entries)))
    (put (codes "mediaType") (string (codes "application/vnd.oci.image.index.v1+json")) (put (codes "schemaVersion") (number (unsigned 2)) c.members)))

-- bytes are the compact JSON of a value, and reading them yields it; of a value with a float the text
-- is not known
pub record IsCompact (bytes : List ℕ) (value : Data) : Type 0 where
  pub text : has_float value ≡ false → bytes ≡ compact_text value
  pub read : reading bytes ≡ Some value

-- `index.json` has the entries and the members that a save writes
pub record HasIndex (file : File) (graph : List Node) (tags : Tags) (opened : OpenedIndex) : Type 0 where
  pub loose : List Descriptor
  pub are_loose : AreLoose graph tags (said opened.content).entries loose
  pub bytes : List ℕ
  pub is_there : file index_file ≡ Some bytes
  pub is_index : IsCompact bytes (index_value (saved_content opened graph tags loose))

-- `oci-layout` is there, and states the version 1.0.0
pub record HasLayoutFile (file : File) : Type 0 where
  pub bytes : List ℕ
  pub is_there : file layout_file ≡ Some bytes
  pub version : version_in bytes ≡ Some layout_version

-- the two files are the ones of a new empty layout
pub record HasFreshTexts (file : File) : Type 0 where
  pub layout : file layout_file ≡ Some layout_text
  pub index : file index_file ≡ Some empty_index_text
