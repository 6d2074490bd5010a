-- The relations of `Manifest` as functions that compute: the crates above reason with
-- `successors_of`.
use Rattle.std.specs.Prelude.{◌≡◌, ℕ, ◌+◌, ◌^◌, ◌&&◌, nat_lt, not, List, [], ◌∷◌, ◌++◌, codes, Option, Some, None, option_and_then, Result, Ok, Err, if◌then◌else◌}
use Rattle.serde_json.specs.Data.{Data, Items, no_items, item}
use Rattle.serde_json.specs.Find.{get, as_str, as_number, as_u64, as_array, as_object}
use Rattle.std.specs.BTreeSet.{BTreeSet, contains}
use Rattle.std.specs.Str.{is_utf8}
use Rattle.serde_json.specs.Read.{read}
use Rattle.oci_digest.specs.Digest.{is_digest}
use Rattle.oci_manifest.specs.declared.fault.ManifestFault.{ManifestFault}
use Rattle.oci_manifest.specs.declared.manifest.member.Field as code
use Rattle.oci_manifest.specs.declared.manifest.member.Field.TheVariants as variant
use Rattle.oci_manifest.specs.Descriptor.{Descriptor, is_among, key_cmp}
use Rattle.oci_manifest.specs.Fault.{Fails, Fault, not_json, not_object, no_config, bad_list, bad_descriptor}
use Rattle.oci_manifest.specs.Manifest.{Field, optional, required, listed, member_of, fields_of, is_distributed, distributed_once}
use Rattle.oci_manifest.specs.declared.kind.Kind.{Kind}
use Rattle.oci_manifest.specs.declared.kind.Kind.TheVariants.{Leaf}

-- ---- chains of results

-- the function applied to a successful result, or the result's error
infixl 10 ◌>>=◌
abbrev pub ◌>>=◌ : {A B : Type 0} → Result A Fault → (A → Result B Fault) → Result B Fault
(Ok x) >>= f = f x
(Err e) >>= f = Err e

-- the value, or this error if there is none
abbrev pub or_fault : {A : Type 0} → Fault → Option A → Result A Fault
or_fault e (Some x) = Ok x
or_fault e None = Err e

-- ---- descriptors

-- the text of the member with this name
abbrev pub text_at : List ℕ → Data → Option (List ℕ)
text_at name value = option_and_then as_str (get name value)

-- the whole number of the member with this name
abbrev pub size_at : List ℕ → Data → Option ℕ
size_at name value = option_and_then as_u64 (option_and_then as_number (get name value))

-- the descriptor with these parts, if the digest is one and the size fits
abbrev pub checked : List ℕ → List ℕ → ℕ → Option Descriptor
checked media_type digest size = if is_digest digest && nat_lt size (2 ^ 63) then Some (record { media_type = media_type; digest = digest; size = size }) else None

-- the descriptor in a value
unfoldable pub descriptor_of : Data → Option Descriptor
descriptor_of value = option_and_then (λ media_type. option_and_then (λ digest. option_and_then (checked media_type digest) (size_at (codes "size") value)) (text_at (codes "digest") value)) (text_at (codes "mediaType") value)

-- the descriptors in a list, with its first element at position i
unfoldable pub descriptors_from : List ℕ → ℕ → Items → Result (List Descriptor) Fault
descriptors_from name i no_items = Ok []
descriptors_from name i (item d ds) = do
  k ← or_fault (bad_descriptor name i) (descriptor_of d)
  ks ← descriptors_from name (i + 1) ds
  Ok (k ∷ ks)

-- ---- members

-- the key of a member that is a descriptor
abbrev pub single : List ℕ → Data → Result (List Descriptor) Fault
single name value = do
  k ← or_fault (bad_descriptor name 0) (descriptor_of value)
  Ok (k ∷ [])

-- the keys of an optional descriptor
abbrev pub optional_in : List ℕ → Option Data → Result (List Descriptor) Fault
optional_in name None = Ok []
optional_in name (Some d) = single name d

-- the keys of a required descriptor
abbrev pub required_in : List ℕ → Option Data → Result (List Descriptor) Fault
required_in name None = Err no_config
required_in name (Some d) = single name d

-- the keys of an optional list
abbrev pub listed_in : List ℕ → Option Data → Result (List Descriptor) Fault
listed_in name None = Ok []
listed_in name (Some d) = do
  ds ← or_fault (bad_list name) (as_array d)
  descriptors_from name 0 ds

-- the keys of a member
unfoldable pub keys_of : Data → Field → Result (List Descriptor) Fault
keys_of manifest (optional name) = optional_in name (member_of manifest name)
keys_of manifest (required name) = required_in name (member_of manifest name)
keys_of manifest (listed name) = listed_in name (member_of manifest name)

-- the keys of these members, in order
unfoldable pub all_keys : Data → List Field → Result (List Descriptor) Fault
all_keys manifest [] = Ok []
all_keys manifest (f ∷ fs) = do
  front ← keys_of manifest f
  rest ← all_keys manifest fs
  Ok (front ++ rest)

-- ---- contents

-- the value of the bytes, if they are UTF-8 and JSON
abbrev pub reading : List ℕ → Option Data
reading bytes = if is_utf8 bytes then read bytes else None

-- the keys of a manifest's members, including repeated keys and undistributed layers
abbrev pub keys_in : Kind → Data → Result (List Descriptor) Fault
keys_in kind manifest = do
  members ← or_fault not_object (as_object manifest)
  all_keys manifest (fields_of kind)

-- these keys, of the bytes of a manifest
unfoldable pub manifest_keys : Kind → List ℕ → Result (List Descriptor) Fault
manifest_keys kind bytes = do
  manifest ← or_fault not_json (reading bytes)
  keys_in kind manifest

-- the keys of an index's `manifests`, or the first rule that it breaks
unfoldable pub index_keys : Data → Result (List Descriptor) Fault
index_keys index = do
  members ← or_fault not_object (as_object index)
  keys_of index (listed (codes "manifests"))

-- the successors of a content, or the first rule that it breaks
unfoldable pub successors_of : Kind → List ℕ → Result (List Descriptor) Fault
successors_of Leaf bytes = Ok []
successors_of kind bytes = manifest_keys kind bytes >>= λ keys. Ok (distributed_once keys)

-- ---- parts of the code

-- the member that a field of the code names
abbrev pub field_of : code.Field → Field
field_of (variant.Optional name) = optional name.now
field_of (variant.Required name) = required name.now
field_of (variant.Listed name) = listed name.now

-- these keys, followed by those of a result
abbrev pub prepend : List Descriptor → Result (List Descriptor) Fault → Result (List Descriptor) Fault
prepend front r = r >>= λ keys. Ok (front ++ keys)

-- on Ok the keys of a result were appended to a list, and on Err the result has this error
abbrev pub Adds : List Descriptor → List Descriptor → Result Unit ManifestFault → Result (List Descriptor) Fault → Type 0
Adds old new (Ok u) r = prepend old r ≡ Ok new
Adds old new (Err e) r = Fails e r

-- the keys, with one appended if it is distributed and not among them
abbrev pub with_successor : List Descriptor → Descriptor → List Descriptor
with_successor kept k = if is_distributed k && not (is_among kept k) then kept ++ k ∷ [] else kept

-- a set has exactly the keys of a list
abbrev pub Remembers : BTreeSet Descriptor → List Descriptor → Type 0
Remembers seen kept = (k : Descriptor) → contains key_cmp seen k ≡ is_among kept k
