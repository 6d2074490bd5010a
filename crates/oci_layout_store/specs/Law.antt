-- The laws of an index that is read as it was written, of opening after a save, and of keys with
-- one digest.
use Rattle.std.specs.Prelude.{◌≡◌, ℕ, false, true, List, [], Some, option_map}
use Rattle.std.specs.Cmp.Lexicographic.{slice_cmp}
use Rattle.std.specs.List.{All}
use Rattle.std.specs.List.Sorted.{IsStrictlySortedBy}
use Rattle.std.specs.Map.{keys_of}
use Rattle.std.specs.Ordering.{nat_cmp}
use Rattle.oci_manifest.specs.Descriptor.{Descriptor, IsKey}
use Rattle.oci_manifest.specs.Reading.{descriptor_of}
use Rattle.oci_store.specs.Closed.{IsClosed}
use Rattle.oci_store.specs.Graph.{Node}
use Rattle.oci_store.specs.Keyed.{value_at, has_key}
use Rattle.oci_store.specs.Tags.{Tags, AreNames}
use Rattle.oci_layout_store.specs.Blobs.{stored, IsSound}
use Rattle.oci_dir.specs.Device.{File}
use Rattle.oci_layout_store.specs.Entries.{IndexContent, IndexEntry, IsIndex, name_of, nothing_read, said}
use Rattle.oci_layout_store.specs.Files.{HasFiles, HasKept}
use Rattle.oci_layout_store.specs.Index.{IsCompact, index_value}
use Rattle.oci_layout_store.specs.Layout.{OpenedIndex}
use Rattle.oci_layout_store.specs.Meant.{meant}
use Rattle.oci_layout_store.specs.Opened.{IsOpened, IsOpenedAsIs, is_whole}
use Rattle.oci_layout_store.specs.Saved.{AreLoose, saved_entries}

-- an entry says what it is: its value is the descriptor of its key, or none, and has its name
pub record IsWhole (e : IndexEntry) : Type 0 where
  pub key_is : descriptor_of e.value ≡ e.key
  pub name_is : name_of e.value ≡ e.name

-- an entry says in these files what it means: its value is a descriptor that means its key, or none,
-- and has its name
pub record IsMeant (file : File) (e : IndexEntry) : Type 0 where
  pub key_is : option_map (meant file) (descriptor_of e.value) ≡ e.key
  pub name_is : name_of e.value ≡ e.name

-- an index that is written of these entries has them when it is read
abbrev pub ReadsAsWritten : Type 0
ReadsAsWritten = (bytes : List ℕ) (content : IndexContent) → All IsWhole content.entries → IsCompact bytes (index_value content)
    → (read : IndexContent) × IsIndex true bytes read × (read.entries ≡ content.entries)

-- a layout opened from the files of a closed sound layout has the same bytes under each key, the
-- same tags, and no absent keys, if what it was opened from before is not remembered
abbrev pub OpensAsSaved : Type 0
OpensAsSaved = (file : File) (graph again : List Node) (tags tags_again : Tags) (remembered opened : OpenedIndex) → All IsKey (keys_of graph) → AreNames graph tags
    → IsStrictlySortedBy (slice_cmp nat_cmp) (keys_of tags) → IsClosed graph → IsSound (Unit {0}) file graph → HasFiles file (stored file graph) graph tags remembered → remembered.content ≡ nothing_read
    → IsOpened file again tags_again opened → ((k : Descriptor) → value_at (stored file again) k ≡ value_at (stored file graph) k) × (tags_again ≡ tags) × (opened.absent ≡ [])

-- a layout opened as it is from the files of a closed sound layout has the same bytes under
-- each key and the same tags, remembers the entries that were written, and writes them when it is
-- saved, if none of the keys that were absent is held or has a whole file, and each entry and each
-- held key still means what it meant
abbrev pub OpensAsWritten : Type 0
OpensAsWritten = (file : File) (graph again : List Node) (tags tags_again : Tags) (opened memory : OpenedIndex) → All IsKey (keys_of graph) → AreNames graph tags
    → IsStrictlySortedBy (slice_cmp nat_cmp) (keys_of tags) → IsClosed graph → IsSound (Unit {0}) file graph → All (IsMeant file) (said opened.content).entries
    → All (λ (k : Descriptor). meant file k ≡ k) (keys_of graph) → All (λ (k : Descriptor). has_key graph k ≡ false) opened.absent → All (λ (k : Descriptor). is_whole file k ≡ false) opened.absent
    → (files : HasFiles file (stored file graph) graph tags opened) → IsOpenedAsIs file again tags_again memory → ((k : Descriptor) → value_at (stored file again) k ≡ value_at (stored file graph) k)
    × (tags_again ≡ tags) × ((said memory.content).entries ≡ saved_entries opened.absent (said opened.content).entries graph tags files.index.loose)
    × ((loose : List Descriptor) → AreLoose again tags_again (said memory.content).entries loose → saved_entries memory.absent (said memory.content).entries again tags_again loose ≡ (said memory.content).entries)

-- what a layout remembers that was opened as it is: entries with the keys that they mean, and absent
-- keys that are not held and have no whole file
abbrev pub Remembers : Type 0
Remembers = (file : File) (graph : List Node) (tags : Tags) (opened : OpenedIndex) → IsOpenedAsIs file graph tags opened → All (IsMeant file) (said opened.content).entries
    × All (λ (k : Descriptor). has_key graph k ≡ false) opened.absent × All (λ (k : Descriptor). is_whole file k ≡ false) opened.absent

-- keys of one digest have the same bytes in a layout
abbrev pub KeysShareBytes : Type 0
KeysShareBytes = (file : File) (graph : List Node) (k other : Descriptor) (x y : List ℕ) → value_at (stored file graph) k ≡ Some x → value_at (stored file graph) other ≡ Some y
    → other.digest ≡ k.digest → y ≡ x

-- what is so of the files that were left of a layout: they are opened as the layout was, if it was
-- opened without absent keys, they have what a save wrote, and they have the same bytes
pub record IsKept (file left : File) (graph : List Node) (tags : Tags) (opened : OpenedIndex) : Type 0 where
  pub bytes : stored left graph ≡ stored file graph
  pub again : opened.absent ≡ [] → IsOpened file graph tags opened → IsOpened left graph tags opened
  pub as_is : opened.absent ≡ [] → IsOpenedAsIs file graph tags opened → IsOpenedAsIs left graph tags opened
  pub saved : HasFiles file (stored file graph) graph tags opened → HasFiles left (stored file graph) graph tags opened

-- where the files of a closed layout were left, it is there
abbrev pub OpensAsKept : Type 0
OpensAsKept = (file left : File) (graph : List Node) (tags : Tags) (opened : OpenedIndex) → IsClosed graph → HasKept file left graph → IsKept file left graph tags opened
