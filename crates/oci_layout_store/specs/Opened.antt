-- The graph, the tags, the absent and the damaged keys of a layout that was opened (OCI image
-- specification 1.1, image-layout.md).
use Rattle.std.specs.Prelude.{◌≡◌, ◌≢◌, ◌&&◌, ◌==◌, ℕ, List, [], length, map, filter, not, Bool, true, false, Some, None, is_some, is_ok, option_map, Ok, if◌then◌else◌}
use Rattle.std.specs.List.{All}
use Rattle.std.specs.Option.{unwrap_or}
use Rattle.oci_manifest.specs.Descriptor.{Descriptor}
use Rattle.oci_manifest.specs.MediaTypes.{kind_of}
use Rattle.oci_manifest.specs.declared.kind.Kind.{Kind}
use Rattle.oci_manifest.specs.declared.kind.Kind.TheVariants.{Leaf}
use Rattle.oci_store.specs.Content.{Matches, succ_of, successors_in}
use Rattle.oci_store.specs.Graph.{Node}
use Rattle.oci_store.specs.Push.{content_check}
use Rattle.oci_store.specs.Tags.{Tags}
use Rattle.oci_store.specs.Visiting.{IsVisiting, next_visit}
use Rattle.oci_layout_store.specs.Blobs.{blob_path, blob_at}
use Rattle.oci_dir.specs.Device.{File}
use Rattle.oci_layout_store.specs.Entries.{IndexContent, IsIndexFile, absent_in, entry_keys, named, nothing_read, owned, said}
use Rattle.oci_layout_store.specs.Index.{index_file, HasLayoutFile}
use Rattle.oci_layout_store.specs.Layout.{OpenedIndex}
use Rattle.oci_layout_store.specs.Meant.{meant_content}

-- ---- the walk

-- the keys that the file of a key lists; none if there is no file
abbrev pub listed_in : File → Descriptor → List Descriptor
listed_in file k = successors_in k (blob_at file k.digest)

-- whether there is a file of a key
abbrev pub is_there : File → Descriptor → Bool
is_there file k = is_some (file (blob_path k.digest))

-- whether bytes of a kind are right: those of a manifest match its key and can be read; those of a
-- leaf are not read, and have the key's size
abbrev pub is_right : Kind → Descriptor → List ℕ → Bool
is_right Leaf k bytes = length bytes == k.size
is_right kind k bytes = is_ok (content_check k bytes)

-- whether there is a file of a key, with bytes that are right
abbrev pub is_whole : File → Descriptor → Bool
is_whole file k = unwrap_or (option_map (is_right (kind_of k.media_type) k) (file (blob_path k.digest))) false

-- whether a walk holds a key: there is a file of it, which is whole if the layout is opened as it is
abbrev pub holds : Bool → File → Descriptor → Bool
holds as_is file k = if as_is then is_whole file k else is_there file k

-- the keys that a held key lists; none of another key
abbrev pub lists : Bool → File → Descriptor → List Descriptor
lists as_is file k = if holds as_is file k then listed_in file k else []

-- whether there is a file of a key which is passed over
abbrev pub is_damaged : Bool → File → Descriptor → Bool
is_damaged as_is file k = is_there file k && not (holds as_is file k)

-- the test of a walk that visits every key
abbrev pub any : Descriptor → Bool
any k = true

-- the longest visiting list
pub record IsWalk (as_is : Bool) (file : File) (starts visited : List Descriptor) : Type 0 where
  pub is_visiting : IsVisiting (lists as_is file) any starts visited
  pub is_whole : next_visit (lists as_is file) any starts visited ≡ None

-- the held keys, each with the keys that it lists
abbrev pub held_in : Bool → File → List Descriptor → List Node
held_in as_is file visited = map (λ k. (k, listed_in file k)) (filter (holds as_is file) visited)

-- if the file of a manifest is there, it matches its key and can be read
abbrev pub IsGood : File → Descriptor → Type 0
IsGood file k = (kind_of k.media_type ≢ Leaf) → (bytes : List ℕ) → file (blob_path k.digest) ≡ Some bytes
    → Matches k bytes × ((ks : List Descriptor) × (succ_of k bytes ≡ Ok ks))

-- the graph has the held keys of the longest visiting list, whose manifests are good
pub record HasWalked (as_is : Bool) (file : File) (starts : List Descriptor) (graph : List Node) : Type 0 where
  pub visited : List Descriptor
  pub walk : IsWalk as_is file starts visited
  pub good : All (λ k. holds as_is file k ≡ true → IsGood file k) visited
  pub held : graph ≡ held_in as_is file visited

-- an index file says this; each entry has the key that it means, if the index is read as it is
pub record IsMeantFile (as_is : Bool) (file : File) (content : IndexContent) : Type 0 where
  pub stated : IndexContent
  pub is_stated : IsIndexFile as_is (file index_file) stated
  pub is_meant : content ≡ meant_content as_is file stated

-- the files of a layout were read: its graph has each key that is reached from its index and is
-- held, in the order of the walk, and the others of the index are absent
pub record IsRead (as_is : Bool) (file : File) (graph : List Node) (absent damaged : List Descriptor) (content : IndexContent) : Type 0 where
  pub layout : HasLayoutFile file
  pub index : IsMeantFile as_is file content
  pub walked : HasWalked as_is file (entry_keys content.entries) graph
  pub absent_is : absent ≡ absent_in graph (entry_keys content.entries)
  pub damaged_is : damaged ≡ filter (is_damaged as_is file) walked.visited

-- a layout was opened: of what its index says it keeps the names of held keys, and the absent keys
pub record IsOpened (file : File) (graph : List Node) (tags : Tags) (opened : OpenedIndex) : Type 0 where
  pub content : IndexContent
  pub read : IsRead false file graph opened.absent opened.damaged content
  pub tagged : tags ≡ named graph content.entries []
  pub content_is : opened.content ≡ nothing_read

-- a layout was opened as it is: it passes over files that are damaged, keeps what its index says, also
-- of elements that are no descriptors, and a name belongs to its last entry, held or not
pub record IsOpenedAsIs (file : File) (graph : List Node) (tags : Tags) (opened : OpenedIndex) : Type 0 where
  pub read : IsRead true file graph opened.absent opened.damaged (said opened.content)
  pub tagged : tags ≡ owned graph (said opened.content).entries []
