-- What an index says: its entries, and the tags that they set (OCI image specification 1.1,
-- image-layout.md).
use Rattle.std.specs.Prelude.{◌≡◌, ◌≤◌, List, ℕ, suc, [], ◌∷◌, map, filter, codes, not, Bool, true, false, Option, Some, None, is_none, option_map, option_and_then, String, string_bytes, Result, Ok, if◌then◌else◌}
use Rattle.std.specs.declared.alloc.Global.{Global}
use Rattle.std.specs.List.{All, filter_map}
use Rattle.std.specs.Option.{unwrap_or}
use Rattle.std.specs.Str.{bytes_eq}
use Rattle.serde_json.specs.Data.{Data, object, string, number, unsigned, Items, no_items, item, Members, member, no_members, depth, members_depth}
use Rattle.serde_json.specs.Find.{get, as_str, as_array, as_object}
use Rattle.serde_json.specs.View.{view}
use Rattle.oci_manifest.specs.Descriptor.{Descriptor, same_key}
use Rattle.oci_manifest.specs.Fault.{Fault, bad_list, not_object}
use Rattle.oci_manifest.specs.Manifest.{member_of}
use Rattle.oci_manifest.specs.Reading.{◌>>=◌, descriptor_of, index_keys, or_fault, reading}
use Rattle.oci_store.specs.Graph.{Node}
use Rattle.oci_store.specs.Keyed.{has_key}
use Rattle.oci_store.specs.Tags.{Tags, set_tag, without_tag}
use Rattle.oci_layout_store.specs.declared.index.IndexEntry.{IndexEntry as CodeEntry}
use Rattle.serde_json.specs.declared.value.Value.{Value, Null}

-- the members of a descriptor
unfoldable pub key_members : Descriptor → Members
key_members k = member (codes "digest") (string k.digest) (member (codes "mediaType") (string k.media_type) (member (codes "size") (number (unsigned k.size)) no_members))

-- the descriptor of a key, with its name if it has one
unfoldable pub named_value : Descriptor → Option (List ℕ) → Data
named_value k None = object (key_members k)
named_value k (Some name) = object (member (codes "annotations") (object (member (codes "org.opencontainers.image.ref.name") (string name) no_members)) (key_members k))

-- an entry: its key, its name if it has one, and its value as it stands in the index; it has no key
-- if the value is no descriptor
pub record IndexEntry : Type 0 where
  pub key : Option Descriptor
  pub name : Option (List ℕ)
  pub value : Data

-- the keys of those of these entries that have one
abbrev pub entry_keys : List IndexEntry → List Descriptor
entry_keys entries = filter_map (λ (e : IndexEntry). e.key) entries

-- whether the key of an entry is this one
abbrev pub is_this_key : Descriptor → Option Descriptor → Bool
is_this_key k None = false
is_this_key k (Some other) = same_key other k

-- whether the key of an entry is held; an entry without a key is not
abbrev pub is_held : List Node → Option Descriptor → Bool
is_held graph None = false
is_held graph (Some k) = has_key graph k

-- the places of the entries without a key, where the first entry is at this place
abbrev pub unreadable_from : ℕ → List IndexEntry → List ℕ
unreadable_from place [] = []
unreadable_from place (e ∷ es) = if is_none e.key then place ∷ unreadable_from (suc place) es else unreadable_from (suc place) es

-- the places of the entries whose values are no descriptors
abbrev pub unreadable_places : List IndexEntry → List ℕ
unreadable_places entries = unreadable_from 0 entries

-- an entry of a key with this name, and without other members
abbrev pub new_entry : Descriptor → Option (List ℕ) → IndexEntry
new_entry k name = record { key = Some k; name = name; value = named_value k name }

-- the entries of an index, and its own members without them
pub record IndexContent : Type 0 where
  pub entries : List IndexEntry
  pub members : Members

abbrev pub no_content : IndexContent
no_content = record { entries = []; members = no_members }

-- ---- reading

-- the name in an entry, if it has one
unfoldable pub name_of : Data → Option (List ℕ)
name_of entry = option_and_then as_str (option_and_then (get (codes "org.opencontainers.image.ref.name")) (get (codes "annotations") entry))

-- the elements of a member, which is a list if it is there
unfoldable pub elements_of : Option Data → Result Items Fault
elements_of None = Ok no_items
elements_of (Some d) = or_fault (bad_list (codes "manifests")) (as_array d)

-- the elements of an index's `manifests`, or the rule that it breaks: an index is an object, and this
-- member is a list, null or absent
unfoldable pub index_elements : Data → Result Items Fault
index_elements index = do
  members ← or_fault not_object (as_object index)
  elements_of (member_of index (codes "manifests"))

-- the members of an object; none of another value
abbrev pub object_members : Data → Members
object_members d = unwrap_or (as_object d) no_members

-- the members without one
abbrev pub without_member : List ℕ → Members → Members
without_member name no_members = no_members
without_member name (member k d ms) = if bytes_eq name k then without_member name ms else member k d (without_member name ms)

-- the entry of an element
abbrev pub entry_of_value : Data → IndexEntry
entry_of_value d = record { key = descriptor_of d; name = name_of d; value = d }

-- the entries of elements
abbrev pub entries_in : Items → List IndexEntry
entries_in no_items = []
entries_in (item d ds) = entry_of_value d ∷ entries_in ds

-- the entries of an index that is read as it is, or the rule that it breaks
abbrev pub entries_as_is : Data → Result (List IndexEntry) Fault
entries_as_is index = index_elements index >>= λ elements. Ok (entries_in elements)

-- the entries of an index, or the first rule that it breaks; each is a descriptor, unless the index is
-- read as it is
abbrev pub index_entries : Bool → Data → Result (List IndexEntry) Fault
index_entries true index = entries_as_is index
index_entries false index = index_keys index >>= λ keys. entries_as_is index

-- bytes are an index that says this
abbrev pub IsIndex : Bool → List ℕ → IndexContent → Type 0
IsIndex as_is bytes content = (value : Data) × (entries : List IndexEntry) × (reading bytes ≡ Some value) × (index_entries as_is value ≡ Ok entries)
    × (content ≡ record { entries = entries; members = without_member (codes "manifests") (object_members value) })

-- what an index file says; nothing if there is no file
abbrev pub IsIndexFile : Bool → Option (List ℕ) → IndexContent → Type 0
IsIndexFile as_is None content = content ≡ no_content
IsIndexFile as_is (Some bytes) content = IsIndex as_is bytes content

-- what was read of an index is not nested too deeply to be written into an index
pub record IsShallow (content : IndexContent) : Type 0 where
  pub entries : All (λ (e : IndexEntry). depth e.value ≤ 125) content.entries
  pub members : members_depth content.members ≤ 126

-- ---- what a layout has of its entries

-- the tags after an entry with this key and name; an empty text is not a name, and a key that is
-- not held gets no tag
abbrev pub tag_named : List Node → Option Descriptor → Option (List ℕ) → Tags → Tags
tag_named graph key None tags = tags
tag_named graph key (Some []) tags = tags
tag_named graph None (Some (c ∷ cs)) tags = tags
tag_named graph (Some k) (Some (c ∷ cs)) tags = if has_key graph k then set_tag tags (c ∷ cs) k else tags

abbrev pub tag_with : List Node → IndexEntry → Tags → Tags
tag_with graph e tags = tag_named graph e.key e.name tags

-- the tags after these entries; of two with one name the last counts
abbrev pub named : List Node → List IndexEntry → Tags → Tags
named graph [] tags = tags
named graph (e ∷ es) tags = named graph es (tag_with graph e tags)

-- the tags after an entry that has its name even if its key is not held, or it has none: then
-- nothing has the name
abbrev pub tag_owned : List Node → Option Descriptor → Option (List ℕ) → Tags → Tags
tag_owned graph key None tags = tags
tag_owned graph key (Some []) tags = tags
tag_owned graph None (Some (c ∷ cs)) tags = without_tag tags (c ∷ cs)
tag_owned graph (Some k) (Some (c ∷ cs)) tags = if has_key graph k then set_tag tags (c ∷ cs) k else without_tag tags (c ∷ cs)

-- the tags after these entries; a name belongs to its last entry, held or not, readable or not
abbrev pub owned : List Node → List IndexEntry → Tags → Tags
owned graph [] tags = tags
owned graph (e ∷ es) tags = owned graph es (tag_owned graph e.key e.name tags)

-- those of these keys that are not held
abbrev pub absent_in : List Node → List Descriptor → List Descriptor
absent_in graph keys = filter (λ k. not (has_key graph k)) keys

-- ---- the code

-- the bytes of a name of the code
abbrev pub text_of : Option (String Global) → Option (List ℕ)
text_of name = option_map string_bytes name

-- an entry of the code
abbrev pub entry_of : CodeEntry → IndexEntry
entry_of e = record { key = e.key; name = text_of e.name; value = view e.value }

-- what an index with these entries and this object of other members says
abbrev pub content_of : List CodeEntry → Value → IndexContent
content_of entries members = record { entries = map entry_of entries; members = object_members (view members) }

-- the entries of an index and the object of its other members, as the code has them
pub record ReadIndex : Type 0 where
  pub entries : List CodeEntry
  pub members : Value

abbrev pub nothing_read : ReadIndex
nothing_read = record { entries = []; members = Null }

-- what an index that was read says
abbrev pub said : ReadIndex → IndexContent
said read = content_of read.entries read.members
