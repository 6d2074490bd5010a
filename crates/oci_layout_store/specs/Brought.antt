-- What a layout remembers of its index after entries of another index are brought into it.
use Rattle.std.specs.Prelude.{◌≡◌, ◌≤◌, ℕ, Bool, true, false, ◌||◌, not, List, [], ◌∷◌, ◌++◌, filter, map, codes, Option, Some, None, is_none, is_some, if◌then◌else◌}
use Rattle.std.specs.Map.{values_of}
use Rattle.std.specs.Option.{option_map_or, unwrap_or}
use Rattle.serde_json.specs.Data.{Data, null, object, string, number, unsigned, put, Members, depth}
use Rattle.serde_json.specs.Find.{get}
use Rattle.oci_manifest.specs.Descriptor.{Descriptor, is_among}
use Rattle.oci_store.specs.Tags.{Tags}
use Rattle.oci_layout_store.specs.Entries.{IndexEntry, entry_keys, object_members, said, without_member}
use Rattle.oci_layout_store.specs.Layout.{OpenedIndex}
use Rattle.oci_layout_store.specs.Saved.{is_name, last_place, no_name, unnamed_keys}

-- ---- an entry with another name

-- the annotations of a descriptor
unfoldable pub annotations_of : Data → Members
annotations_of d = object_members (unwrap_or (get (codes "annotations") d) null)

-- annotations with this name, or without a name
unfoldable pub with_name : Option (List ℕ) → Members → Members
with_name None annotations = without_member (codes "org.opencontainers.image.ref.name") annotations
with_name (Some name) annotations = put (codes "org.opencontainers.image.ref.name") (string name) annotations

-- a descriptor with these annotations
unfoldable pub with_annotations : Data → Members → Data
with_annotations d annotations = object (put (codes "annotations") (object annotations) (object_members d))

-- whether two names are the same, or there is none
abbrev pub same_name : Option (List ℕ) → Option (List ℕ) → Bool
same_name None other = is_none other
same_name (Some name) other = is_name name other

-- an entry with this name, or without one; it stays as it is if that is so already
abbrev pub renamed : Option (List ℕ) → IndexEntry → IndexEntry
renamed name e =
    if same_name name e.name then e
    else record { key = e.key; name = name; value = with_annotations e.value (with_name name (annotations_of e.value)) }

-- an entry is not nested too deeply to be written into an index
abbrev pub IsShallowEntry : IndexEntry → Type 0
IsShallowEntry e = depth e.value ≤ 125

-- ---- the entries of an index are replaced

-- whether a name gives way to these entries: one of them has it, or each name does
abbrev pub gives_way : Bool → List IndexEntry → Option (List ℕ) → Bool
gives_way each entries None = false
gives_way each entries (Some []) = false
gives_way each entries (Some (c ∷ cs)) = each || is_some (last_place (c ∷ cs) entries)

-- the entries that stay: those whose names do not give way
abbrev pub staying : Bool → List IndexEntry → List IndexEntry → List IndexEntry
staying each entries old = filter (λ (e : IndexEntry). not (gives_way each entries e.name)) old

-- whether the key of an entry has no tag and no entry without a name; `tagged` and `unnamed` say of a
-- key whether it has one
abbrev pub is_free : (Descriptor → Bool) → (Descriptor → Bool) → Option Descriptor → Bool
is_free tagged unnamed None = false
is_free tagged unnamed (Some k) = not (tagged k || unnamed k)

-- whether an entry comes: it has a name, or else a key that has no tag and no entry without a name
abbrev pub comes : (Descriptor → Bool) → (Descriptor → Bool) → IndexEntry → Bool
comes tagged unnamed e = not (no_name e.name) || is_free tagged unnamed e.key

-- a descriptor with the media type and the size of a key
unfoldable pub value_stating : Descriptor → Data → Data
value_stating k d = object (put (codes "mediaType") (string k.media_type) (put (codes "size") (number (unsigned k.size)) (object_members d)))

-- an entry whose value states its key, which it may only mean
abbrev pub stating : IndexEntry → IndexEntry
stating e = record { key = e.key; name = e.name; value = option_map_or (λ k. value_stating k e.value) e.key e.value }

-- those of these entries that come; the value of each states its key
abbrev pub coming : List Descriptor → List IndexEntry → List IndexEntry → List IndexEntry
coming tagged old entries = map stating (filter (comes (is_among tagged) (is_among (unnamed_keys old))) entries)

-- those of the absent or damaged keys that stay so: an entry that stays has the key, or none had it
abbrev pub still_absent : List IndexEntry → List IndexEntry → List Descriptor → List Descriptor
still_absent old stay absent = filter (λ k. is_among (entry_keys stay) k || not (is_among (entry_keys old) k)) absent

-- only these of the entries that a layout remembers stay, and more come
pub record IsReplaced (stay more : List IndexEntry) (old new : OpenedIndex) : Type 0 where
  pub entries : (said new.content).entries ≡ stay ++ more
  pub members : (said new.content).members ≡ (said old.content).members
  pub absent : new.absent ≡ still_absent (said old.content).entries stay old.absent
  pub damaged : new.damaged ≡ still_absent (said old.content).entries stay old.damaged

-- entries are brought: they replace those of their names; one without a name comes only if it has a
-- key, and the layout has no tag of it and no entry without a name of it
abbrev pub Brings : List IndexEntry → Tags → OpenedIndex → OpenedIndex → Type 0
Brings entries tags old new = IsReplaced (staying false entries (said old.content).entries) (coming (values_of tags) (said old.content).entries entries) old new

-- the entries with the name of one of these are forgotten
abbrev pub Forgets : List IndexEntry → OpenedIndex → OpenedIndex → Type 0
Forgets entries old new = IsReplaced (staying false entries (said old.content).entries) [] old new

-- the entries with a name are forgotten
abbrev pub ForgetsNames : OpenedIndex → OpenedIndex → Type 0
ForgetsNames old new = IsReplaced (staying true [] (said old.content).entries) [] old new
