-- The platforms that the descriptors of an index state (OCI image specification 1.1, image-index.md,
-- `platform`).
use Rattle.std.specs.Prelude.{◌≡◌, ◌⊎◌, ℕ, ◌||◌, Bool, true, false, List, [], ◌∷◌, ◌++◌, codes, Option, Some, None, Err, map, string_bytes, option_map, option_and_then, if◌then◌else◌}
use Rattle.std.specs.List.{list_any}
use Rattle.std.specs.Option.{option_or, unwrap_or}
use Rattle.std.specs.Str.{bytes_eq}
use Rattle.serde_json.specs.Data.{Data, Items, no_items, item}
use Rattle.serde_json.specs.Find.{get, as_array}
use Rattle.serde_json.specs.View.{view}
use Rattle.oci_manifest.specs.Descriptor.{Descriptor}
use Rattle.oci_manifest.specs.MediaTypes.{kind_of}
use Rattle.oci_manifest.specs.Reading.{descriptor_of, reading, text_at}
use Rattle.oci_manifest.specs.declared.kind.Kind.{Kind}
use Rattle.oci_manifest.specs.declared.kind.Kind.TheVariants.{Index, DockerList}
use Rattle.oci_manifest.specs.declared.fault.ManifestFault.TheVariants as manifest
use Rattle.oci_store.specs.Graph.{Node}
use Rattle.oci_store.specs.Keyed.{has_key, value_at}
use Rattle.oci_layout_store.specs.Blobs.{blob_path, stored, IsFetch, IsNotOf}
use Rattle.oci_dir.specs.Device.{Device, File}
use Rattle.oci_layout_store.specs.Entries.{IndexEntry, name_of}
use Rattle.oci_layout_store.specs.Opened.{is_damaged}
use Rattle.oci_layout_store.specs.Refusal.{IsDamageFault}
use Rattle.oci_layout_store.specs.declared.fault.LayoutFault.TheVariants as layout
use Rattle.oci_store.specs.declared.fault.FetchFault.{FetchFault}
use Rattle.oci_prune_fault.specs.declared.fault.PruneFault.TheVariants as prune
use Rattle.oci_program.specs.declared.fault.ProgramFault.{ProgramFault}
use Rattle.oci_program.specs.declared.fault.ProgramFault.TheVariants as fault
use Rattle.oci_reference.specs.declared.platform.Picked.{Picked as CodePicked}

-- ---- the platform of a descriptor

-- the text of a member of a descriptor's `platform`
unfoldable pub platform_text : List ℕ → Data → Option (List ℕ)
platform_text name descriptor = option_and_then (text_at name) (get (codes "platform") descriptor)

-- two texts with a slash between them
unfoldable pub joined : List ℕ → List ℕ → List ℕ
joined front rest = front ++ codes "/" ++ rest

-- OS/ARCH of the platform that a descriptor states; without these two texts it states none
unfoldable pub short_platform : Data → Option (List ℕ)
short_platform descriptor = option_and_then (λ os. option_map (joined os) (platform_text (codes "architecture") descriptor)) (platform_text (codes "os") descriptor)

-- a text, and the variant if there is one
abbrev pub with_variant : Option (List ℕ) → List ℕ → List ℕ
with_variant None short = short
with_variant (Some variant) short = joined short variant

-- the platform that a descriptor states: OS/ARCH/VARIANT, or OS/ARCH if it has no variant
unfoldable pub platform_of : Data → Option (List ℕ)
platform_of descriptor = option_map (with_variant (platform_text (codes "variant") descriptor)) (short_platform descriptor)

-- whether a text is this one
abbrev pub is_text : List ℕ → Option (List ℕ) → Bool
is_text text None = false
is_text text (Some other) = bytes_eq text other

-- whether a descriptor states this platform, which is given with its variant or without
abbrev pub states : List ℕ → Data → Bool
states platform descriptor = is_text platform (short_platform descriptor) || is_text platform (platform_of descriptor)

-- ---- the descriptors of an index

-- whether a kind is that of an index
abbrev pub is_index : Kind → Bool
is_index Index = true
is_index DockerList = true
is_index kind = false

-- the elements of an index's `manifests`
unfoldable pub manifests_in : Data → Items
manifests_in index = unwrap_or (option_and_then as_array (get (codes "manifests") index)) no_items

-- what bytes of a kind list in `manifests`; nothing unless they are an index
abbrev pub listed_in : Kind → List ℕ → Items
listed_in kind bytes = if is_index kind then unwrap_or (option_map manifests_in (reading bytes)) no_items else no_items

-- the key of an element that is a descriptor and states the platform
abbrev pub key_for : List ℕ → Data → Option Descriptor
key_for platform element = if states platform element then descriptor_of element else None

-- the first of these elements that is a descriptor and states the platform, with its key
abbrev pub first_for : List ℕ → Items → Option (Descriptor × Data)
first_for platform no_items = None
first_for platform (item d ds) = option_or (option_map (λ k. (k, d)) (key_for platform d)) (first_for platform ds)

-- the platforms found so far, and that of one more element unless it is among them
abbrev pub with_platform : List (List ℕ) → Option (List ℕ) → List (List ℕ)
with_platform found None = found
with_platform found (Some platform) = if list_any (bytes_eq platform) found then found else found ++ platform ∷ []

-- the platforms found so far, and those that these elements state
abbrev pub platforms_after : List (List ℕ) → Items → List (List ℕ)
platforms_after found no_items = found
platforms_after found (item d ds) = platforms_after (with_platform found (platform_of d)) ds

-- the platforms that these elements state, in their order, each once
abbrev pub platforms_in : Items → List (List ℕ)
platforms_in elements = platforms_after [] elements

-- the platform that an element states and its key, if it is a descriptor and states one
abbrev pub stated_by : Data → Option (List ℕ × Descriptor)
stated_by d = option_and_then (λ platform. option_map (λ k. (platform, k)) (descriptor_of d)) (platform_of d)

-- the platforms found so far, and one more if there is one
abbrev pub add_stated : List (List ℕ × Descriptor) → Option (List ℕ × Descriptor) → List (List ℕ × Descriptor)
add_stated found None = found
add_stated found (Some stated) = found ++ stated ∷ []

-- the platforms found so far, and those that these elements state
abbrev pub stated_after : List (List ℕ × Descriptor) → Items → List (List ℕ × Descriptor)
stated_after found no_items = found
stated_after found (item d ds) = stated_after (add_stated found (stated_by d)) ds

-- the platforms that these elements state, in their order, each with the key of its element
abbrev pub all_stated : Items → List (List ℕ × Descriptor)
all_stated elements = stated_after [] elements

-- what an index of a layout lists, by the bytes that the layout has for its key
abbrev pub listed_by : File → List Node → Descriptor → Items
listed_by file graph k = listed_in (kind_of k.media_type) (unwrap_or (value_at (stored file graph) k) [])

-- the entry of an image layout's index for a key, with its descriptor
abbrev pub entry_for : Descriptor × Data → IndexEntry
entry_for first = record { key = Some first.0; name = name_of first.1; value = first.1 }

-- ---- refusals

-- none of these elements states the platform, and the fault has those that they state
abbrev pub IsNoPlatform : Items → List ℕ → ProgramFault → Type 0
IsNoPlatform listed platform (fault.NoPlatform asked platforms) = (string_bytes asked ≡ platform) × (map string_bytes platforms.items ≡ platforms_in listed)
IsNoPlatform listed platform other = ⊥

-- bytes of a key are not JSON
abbrev pub IsNoJson : Descriptor → List ℕ → ProgramFault → Type 0
IsNoJson k bytes (fault.Layout (layout.BadManifest named manifest.NotJson)) = (named ≡ k) × (reading bytes ≡ None)
IsNoJson k bytes fault.Memory = Unit {0}
IsNoJson k bytes other = ⊥

-- why an index of a layout is not read: it cannot be fetched, or its bytes are not JSON
abbrev pub IsUnreadIndex : Device → List Node → Descriptor → ProgramFault → Type 0
IsUnreadIndex dir graph index e = ((f : FetchFault) × (e ≡ fault.Fetch f) × IsFetch dir graph index (IsNotOf index (dir.file (blob_path index.digest))) (Err f))
    ⊎ ((bytes : List ℕ) × (dir.is_honest → value_at (stored dir.file graph) index ≡ Some bytes) × IsNoJson index bytes e)

-- a layout does not hold a key: its file is damaged, as the fault says, or the key is unknown
abbrev pub IsNotHeld : Device → List Node → Descriptor → ProgramFault → Type 0
IsNotHeld dir graph k (fault.Layout e) = (has_key graph k ≡ false) × IsDamageFault dir k e
IsNotHeld dir graph k (fault.Source (prune.Unknown named)) = (named ≡ k) × (has_key graph k ≡ false) × (dir.is_honest → is_damaged true dir.file k ≡ false)
IsNotHeld dir graph k fault.Memory = Unit {0}
IsNotHeld dir graph k other = ⊥

-- no descriptor of an index of a layout states the platform
abbrev pub IsUnstated : Device → List Node → Descriptor → List ℕ → ProgramFault → Type 0
IsUnstated dir graph index platform e = (listed : Items) × (dir.is_honest → listed ≡ listed_by dir.file graph index) × (first_for platform listed ≡ None) × IsNoPlatform listed platform e

-- the layout does not hold the first descriptor of an index that states the platform
abbrev pub IsLost : Device → List Node → Descriptor → List ℕ → ProgramFault → Type 0
IsLost dir graph index platform e = (k : Descriptor) × (d : Data) × (dir.is_honest → first_for platform (listed_by dir.file graph index) ≡ Some (k, d)) × IsNotHeld dir graph k e

-- why no manifest of an index is picked
abbrev pub IsPickFault : Device → List Node → Descriptor → List ℕ → ProgramFault → Type 0
IsPickFault dir graph index platform e = (e ≡ fault.Memory) ⊎ IsUnreadIndex dir graph index e ⊎ IsUnstated dir graph index platform e ⊎ IsLost dir graph index platform e

-- ---- the code

-- the key and the descriptor that were picked
abbrev pub picked_of : CodePicked → Descriptor × Data
picked_of picked = (picked.key, view picked.descriptor)
