-- The entries of a source's index that a copy brings.
use Rattle.std.specs.Prelude.{◌≡◌, ◌++◌, ◌∷◌, [], ℕ, Bool, true, false, not, ◌&&◌, ◌||◌, List, filter, Option, None, Some, is_some, option_map, option_and_then, slice_get, if◌then◌else◌}
use Rattle.std.specs.BTreeMap.{BTreeMap, get}
use Rattle.std.specs.List.{flat_map}
use Rattle.oci_manifest.specs.Descriptor.{Descriptor, key_cmp}
use Rattle.oci_store.specs.Tags.{Tags}
use Rattle.oci_layout_store.specs.Brought.{renamed}
use Rattle.oci_layout_store.specs.Entries.{IndexEntry, is_this_key}
use Rattle.oci_layout_store.specs.Saved.{is_name, later_place, no_name}

-- ---- the last entry of a key

-- the place of the last entry that passes a test
abbrev pub last_such : (IndexEntry → Bool) → List IndexEntry → Option ℕ
last_such test [] = None
last_such test (e ∷ es) = later_place (last_such test es) (test e)

-- whether an entry is of a key; with `unnamed` it must have no name. One without a key is of none
abbrev pub is_of : Bool → Descriptor → IndexEntry → Bool
is_of unnamed k e = (not unnamed || no_name e.name) && is_this_key k e.key

-- whether an entry is of a name and a key
abbrev pub is_tagged : List ℕ → Descriptor → IndexEntry → Bool
is_tagged name k e = is_name name e.name && is_this_key k e.key

-- the first of two places that is there
abbrev pub first_of : Option ℕ → Option ℕ → Option ℕ
first_of None place = place
first_of (Some place) other = Some place

-- the entry of a key: the last one without a name, or else the last one
abbrev pub place_of_key : List IndexEntry → Descriptor → Option ℕ
place_of_key entries k = first_of (last_such (is_of true k) entries) (last_such (is_of false k) entries)

-- the entry of a reference that resolves to a key: the last one of that name and key, or else the
-- entry of the key
abbrev pub place_of_reference : List IndexEntry → List ℕ → Descriptor → Option ℕ
place_of_reference entries name k = first_of (last_such (is_tagged name k) entries) (place_of_key entries k)

abbrev pub entry_at : List IndexEntry → Option ℕ → Option IndexEntry
entry_at entries place = option_and_then (slice_get entries) place

-- ---- the entries that a copy brings

-- the one that may be there
abbrev pub if_there : Option IndexEntry → List IndexEntry
if_there None = []
if_there (Some e) = e ∷ []

-- the entries with a name
abbrev pub named_entries : List IndexEntry → List IndexEntry
named_entries entries = filter (λ (e : IndexEntry). not (no_name e.name)) entries

-- the entry that a copy of a reference brings, under a name
abbrev pub reference_entry : List IndexEntry → List ℕ → List ℕ → Descriptor → List IndexEntry
reference_entry entries from to k = if_there (option_map (renamed (Some to)) (entry_at entries (place_of_reference entries from k)))

-- the entries that a copy brings of tags of the source, each under its own name
abbrev pub tag_entries : List IndexEntry → Tags → List IndexEntry
tag_entries entries tags = flat_map (λ (t : List ℕ × Descriptor). reference_entry entries t.0 t.0 t.1) tags

-- the entry that a root brings, without its name, unless one of the named ones has its key
abbrev pub root_entry : List IndexEntry → List IndexEntry → Descriptor → List IndexEntry
root_entry entries named k = if is_some (last_such (is_of false k) named) then [] else if_there (option_map (renamed None) (entry_at entries (place_of_key entries k)))

-- the named entries, and those that the other roots bring
abbrev pub with_roots : List IndexEntry → List IndexEntry → List Descriptor → List IndexEntry
with_roots entries named roots = named ++ flat_map (root_entry entries named) roots

-- ---- the code

-- a map has the place of the last entry of each key
abbrev pub HasLastPlaces : Bool → BTreeMap Descriptor ℕ → List IndexEntry → Type 0
HasLastPlaces unnamed places entries = (k : Descriptor) → get key_cmp places k ≡ last_such (is_of unnamed k) entries
