-- The manifest that an entry of an index means: some tools write `application/octet-stream` when they
-- tag a manifest that the index does not list. A manifest's type with parameters is that type.
use Rattle.std.specs.Prelude.{ℕ, Bool, true, false, List, map, codes, length, not, ◌&&◌, ◌||◌, ◌==◌, nat_lt, is_ok, is_some, Option, Some, None, option_map, option_and_then, if◌then◌else◌}
use Rattle.std.specs.List.{before_first}
use Rattle.std.specs.Str.{bytes_eq}
use Rattle.serde_json.specs.Data.{Data}
use Rattle.serde_json.specs.Find.{get, as_array}
use Rattle.oci_digest.specs.Digest.{verifies}
use Rattle.oci_dir.specs.Device.{File}
use Rattle.oci_manifest.specs.Descriptor.{Descriptor}
use Rattle.oci_manifest.specs.MediaTypes.{kind_of}
use Rattle.oci_manifest.specs.Reading.{reading, successors_of, text_at}
use Rattle.oci_layout_store.specs.Blobs.{blob_path}
use Rattle.oci_layout_store.specs.Entries.{IndexContent, IndexEntry}
use Rattle.oci_layout_store.specs.Layout.{is_manifest}

-- ---- by the text of a content

-- whether a media type is that of a manifest
abbrev pub names_manifest : List ℕ → Bool
names_manifest media_type = is_manifest (kind_of media_type)

-- a media type up to its parameters (RFC 6838, 4.3)
abbrev pub without_parameters : List ℕ → List ℕ
without_parameters media_type = before_first (λ b. b == 59) media_type

-- a media type; without its parameters, if it is then that of a manifest
unfoldable pub plain_type : List ℕ → List ℕ
plain_type media_type = if names_manifest (without_parameters media_type) then without_parameters media_type else media_type

-- whether a media type says nothing of what a content is
abbrev pub is_octets : List ℕ → Bool
is_octets media_type = bytes_eq media_type (codes "application/octet-stream")

-- whether a media type leaves open what a content is: it says nothing of it, or it is that of a
-- manifest with parameters
unfoldable pub is_open : List ℕ → Bool
is_open media_type = is_octets media_type || (not (names_manifest media_type) && names_manifest (without_parameters media_type))

-- the manifest type that a JSON value states of itself, if it does
abbrev pub stated_type : Option (List ℕ) → Option (List ℕ)
stated_type None = None
stated_type (Some stated) = if names_manifest (plain_type stated) then Some (plain_type stated) else None

-- the manifest type that a JSON value looks like: an index has a list of manifests, and an image a
-- config and layers
unfoldable pub shape_of : Data → Option (List ℕ)
shape_of value =
    if is_some (option_and_then as_array (get (codes "manifests") value)) then Some (codes "application/vnd.oci.image.index.v1+json")
    else if is_some (get (codes "config") value) && is_some (get (codes "layers") value) then Some (codes "application/vnd.oci.image.manifest.v1+json")
    else None

-- the type that bytes look like, if they can be read as such a manifest, or else this one
abbrev pub type_by_shape : List ℕ → List ℕ → Option (List ℕ) → List ℕ
type_by_shape media_type bytes None = plain_type media_type
type_by_shape media_type bytes (Some shape) = if is_ok (successors_of (kind_of shape) bytes) then shape else plain_type media_type

-- the manifest type that bytes state, or else that which they look like, or else this one
abbrev pub type_by_value : List ℕ → List ℕ → Data → Option (List ℕ) → List ℕ
type_by_value media_type bytes value (Some stated) = stated
type_by_value media_type bytes value None = type_by_shape media_type bytes (shape_of value)

-- the media type that bytes have by what they say, if they are JSON, or else this one
abbrev pub type_in : List ℕ → List ℕ → Option Data → List ℕ
type_in media_type bytes None = plain_type media_type
type_in media_type bytes (Some value) = type_by_value media_type bytes value (stated_type (text_at (codes "mediaType") value))

-- the type of a content that does not match its digest, so that nobody knows what it is: that of an
-- index, as which each manifest can be read, if its own type says nothing
abbrev pub unknown_type : List ℕ → List ℕ
unknown_type media_type = if is_octets media_type then codes "application/vnd.oci.image.index.v1+json" else plain_type media_type

-- ---- by the file of an entry

-- the most bytes of a file that is read for what it is
abbrev pub most_read : ℕ
most_read = 4194304

-- whether a key may mean another one, by the length of its file: its media type leaves open what it is,
-- or its size is not that length
abbrev pub is_odd : Descriptor → ℕ → Bool
is_odd k length = is_open k.media_type || not (k.size == length)

-- a key with another media type
abbrev pub of_type : Descriptor → List ℕ → Descriptor
of_type k media_type = record { media_type = media_type; digest = k.digest; size = k.size }

-- the key of bytes with this key's digest: it has their length, and the manifest type that they have if
-- the key's own type leaves that open
abbrev pub meant_key : Descriptor → List ℕ → Descriptor
meant_key k bytes = record {
  media_type = if is_open k.media_type then type_in k.media_type bytes (reading bytes) else k.media_type;
  digest = k.digest;
  size = length bytes;
}

-- the key that an entry means whose file has these bytes; if they do not match its digest, it is a
-- damaged manifest, unless its type says otherwise
abbrev pub meant_by : Descriptor → List ℕ → Descriptor
meant_by k bytes = if verifies k.digest bytes then meant_key k bytes else of_type k (unknown_type k.media_type)

-- the bytes of a file that have to be read for what the key means
abbrev pub odd_in : Descriptor → Option (List ℕ) → Option (List ℕ)
odd_in k None = None
odd_in k (Some bytes) = if is_odd k (length bytes) && not (nat_lt most_read (length bytes)) then Some bytes else None

-- the key that an entry means, by the bytes that were read
abbrev pub meant_in : Descriptor → Option (List ℕ) → Descriptor
meant_in k None = of_type k (plain_type k.media_type)
meant_in k (Some bytes) = meant_by k bytes

-- the key that an entry with this key means in these files
abbrev pub meant : File → Descriptor → Descriptor
meant file k = meant_in k (odd_in k (file (blob_path k.digest)))

-- an entry with the key that it means; its value stays as it is
abbrev pub meant_entry : File → IndexEntry → IndexEntry
meant_entry file e = record { key = option_map (meant file) e.key; name = e.name; value = e.value }

-- what an index says if it is read as it is: each entry has the key that it means
abbrev pub meant_content : Bool → File → IndexContent → IndexContent
meant_content true file content = record { entries = map (meant_entry file) content.entries; members = content.members }
meant_content false file content = content
