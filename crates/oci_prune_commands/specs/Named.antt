-- The entries of a name.
use Rattle.std.specs.Prelude.{List, ℕ, Option, filter, map}
use Rattle.oci_manifest.specs.Descriptor.{Descriptor}
use Rattle.oci_layout_store.specs.Entries.{IndexEntry}
use Rattle.oci_layout_store.specs.Saved.{is_name}

-- the entries with the name
abbrev pub entries_named : List ℕ → List IndexEntry → List IndexEntry
entries_named name entries = filter (λ (e : IndexEntry). is_name name e.name) entries

-- the key of each entry with the name; an entry that is no descriptor has none
abbrev pub keys_named : List ℕ → List IndexEntry → List (Option Descriptor)
keys_named name entries = map (λ (e : IndexEntry). e.key) (entries_named name entries)
