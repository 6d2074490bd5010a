-- Why a layout is not opened, created or saved.
use Rattle.std.specs.Prelude.{◌≡◌, ◌≢◌, ◌⊎◌, ℕ, Bool, true, false, List, [], ◌∷◌, ◌++◌, codes, length, slice_get, Some, None, is_some, Result, Err}
use Rattle.std.specs.List.{All}
use Rattle.oci_manifest.specs.Descriptor.{Descriptor}
use Rattle.oci_manifest.specs.Fault.{Fault, bad_descriptor, not_json, IsFault}
use Rattle.oci_manifest.specs.MediaTypes.{kind_of}
use Rattle.oci_manifest.specs.Reading.{◌>>=◌, or_fault, reading}
use Rattle.oci_manifest.specs.declared.fault.ManifestFault.{ManifestFault}
use Rattle.oci_manifest.specs.declared.kind.Kind.TheVariants.{Leaf}
use Rattle.oci_store.specs.Content.{Matches, succ_of}
use Rattle.oci_layout_store.specs.Blobs.{blob_path}
use Rattle.oci_dir.specs.Device.{Device, File}
use Rattle.oci_layout_store.specs.Index.{index_file, layout_file, layout_version, version_in, HasLayoutFile}
use Rattle.oci_store.specs.Push.{IsRaised}
use Rattle.oci_store.specs.Visiting.{IsVisiting}
use Rattle.oci_layout_store.specs.Entries.{IndexContent, IndexEntry, IsIndexFile, entry_keys, index_entries, unreadable_places}
use Rattle.oci_layout_store.specs.Opened.{IsGood, lists, any}
use Rattle.oci_layout_store.specs.declared.fault.LayoutFault.{LayoutFault}
use Rattle.oci_layout_store.specs.declared.fault.LayoutFault.TheVariants as fault

-- ---- the layout file and the index

-- the bytes state no version
abbrev pub HasNoVersion : File → Type 0
HasNoVersion file = (bytes : List ℕ) × (file layout_file ≡ Some bytes) × (version_in bytes ≡ None)

-- the bytes state another version than 1.0.0
abbrev pub HasOtherVersion : File → Type 0
HasOtherVersion file = (bytes : List ℕ) × (version : List ℕ) × (file layout_file ≡ Some bytes) × (version_in bytes ≡ Some version) × (version ≢ layout_version)

-- the entries of an index with these bytes, or the first rule that it breaks; each is a descriptor,
-- unless the index is read as it is
abbrev pub index_in : Bool → List ℕ → Result (List IndexEntry) Fault
index_in as_is bytes = or_fault not_json (reading bytes) >>= index_entries as_is

-- the index is there, and breaks the rule that the fault names
abbrev pub HasBadIndex : Bool → File → ManifestFault → Type 0
HasBadIndex as_is file e = (bytes : List ℕ) × (cause : Fault) × (file index_file ≡ Some bytes) × (index_in as_is bytes ≡ Err cause) × IsFault e cause

-- ---- the files of manifests

-- the file of a manifest is there, and does not match its key
abbrev pub IsCorrupt : File → Descriptor → Type 0
IsCorrupt file k = (kind_of k.media_type ≢ Leaf) × (bytes : List ℕ) × (file (blob_path k.digest) ≡ Some bytes) × (Matches k bytes → ⊥)

-- the file of a manifest is there and matches its key, and breaks the rule that the fault names
abbrev pub IsUnread : File → Descriptor → ManifestFault → Type 0
IsUnread file k e = (kind_of k.media_type ≢ Leaf) × (bytes : List ℕ) × (cause : Fault) × (file (blob_path k.digest) ≡ Some bytes) × Matches k bytes × (succ_of k bytes ≡ Err cause) × IsFault e cause

-- the file of a leaf is there, and has not the size of its key
abbrev pub IsOfOtherSize : File → Descriptor → Type 0
IsOfOtherSize file k = (kind_of k.media_type ≡ Leaf) × (bytes : List ℕ) × (file (blob_path k.digest) ≡ Some bytes) × (length bytes ≢ k.size)

-- the key is the last of a visiting list, and the manifests that were visited before it are good
pub record IsNextVisited (file : File) (starts : List Descriptor) (k : Descriptor) : Type 0 where
  pub earlier : List Descriptor
  pub visiting : IsVisiting (lists false file) any starts (earlier ++ k ∷ [])
  pub good : All (IsGood file) earlier

-- the key is the next one that a walk from the keys of the index visits, and the manifests before
-- it are good
pub record IsNextOfIndex (file : File) (k : Descriptor) : Type 0 where
  pub content : IndexContent
  pub index : IsIndexFile false (file index_file) content
  pub next : IsNextVisited file (entry_keys content.entries) k

-- ---- the faults of public calls

-- why a directory is not opened; a fault says something of the files only if the directory is
-- honest. With a fault of the index or of a manifest the layout file is right, and with one of a
-- manifest the index is too
abbrev pub IsOpenFault : Device → LayoutFault → Type 0
IsOpenFault dir fault.NoLayoutFile = dir.is_honest → dir.file layout_file ≡ None
IsOpenFault dir fault.BadLayoutFile = dir.is_honest → HasNoVersion dir.file
IsOpenFault dir fault.BadVersion = dir.is_honest → HasOtherVersion dir.file
IsOpenFault dir (fault.BadIndex e) = dir.is_honest → HasLayoutFile dir.file × HasBadIndex false dir.file e
IsOpenFault dir fault.Device = dir.fails_reads ≡ true
IsOpenFault dir (fault.Corrupt k) = dir.is_honest → HasLayoutFile dir.file × IsNextOfIndex dir.file k × IsCorrupt dir.file k
IsOpenFault dir fault.Memory = Unit {0}
IsOpenFault dir (fault.BadManifest k e) = dir.is_honest → HasLayoutFile dir.file × IsNextOfIndex dir.file k × IsUnread dir.file k e
IsOpenFault dir fault.AlreadyLayout = ⊥

-- why a directory is not opened as it is: as why it is not opened, but for no manifest, and for no
-- entry of the index
abbrev pub IsOpenAsIsFault : Device → LayoutFault → Type 0
IsOpenAsIsFault dir (fault.BadIndex e) = dir.is_honest → HasLayoutFile dir.file × HasBadIndex true dir.file e
IsOpenAsIsFault dir (fault.Corrupt k) = ⊥
IsOpenAsIsFault dir (fault.BadManifest k e) = ⊥
IsOpenAsIsFault dir other = IsOpenFault dir other

-- why a directory is not opened, as it is or not
abbrev pub IsOpenFaultBy : Bool → Device → LayoutFault → Type 0
IsOpenFaultBy true dir e = IsOpenAsIsFault dir e
IsOpenFaultBy false dir e = IsOpenFault dir e

-- the entry at a place is no descriptor, as `open` names it
abbrev pub IsUnreadable : ℕ → LayoutFault → Type 0
IsUnreadable place (fault.BadIndex e) = IsFault e (bad_descriptor (codes "manifests") place)
IsUnreadable place other = ⊥

-- the fault names the first of these entries that is no descriptor
abbrev pub IsFirstUnreadable : List IndexEntry → LayoutFault → Type 0
IsFirstUnreadable entries e = (place : ℕ) × (slice_get (unreadable_places entries) 0 ≡ Some place) × IsUnreadable place e

-- why no layout is created in a directory
abbrev pub IsCreateFault : Device → Device → LayoutFault → Type 0
IsCreateFault old new fault.Device = ((old.fails_reads ≡ true) × (new.failures ≡ old.failures)) ⊎ IsRaised old.failures new.failures
IsCreateFault old new fault.Memory = Unit {0}
IsCreateFault old new fault.AlreadyLayout = old.is_honest → is_some (old.file layout_file) ≡ true
IsCreateFault old new other = ⊥

-- why an index was not saved as one that a power cut leaves whole: the directory could not say that a
-- file is on the disk, or a file was not put
abbrev pub IsSettledFault : Device → Device → LayoutFault → Type 0
IsSettledFault old new fault.Device = ((old.fails_reads ≡ true) × (new.failures ≡ old.failures)) ⊎ IsRaised old.failures new.failures
IsSettledFault old new fault.Memory = Unit {0}
IsSettledFault old new other = ⊥

-- why a file was not put; `before` and `after` are the directory's counts of failed puts
abbrev pub IsPutFault : ℕ → ℕ → LayoutFault → Type 0
IsPutFault before after fault.Device = IsRaised before after
IsPutFault before after fault.Memory = Unit {0}
IsPutFault before after other = ⊥

-- ---- the faults of parts of the code

-- the bytes of a manifest do not match its key, or break the rule that the fault names, or memory
-- ran out
abbrev pub IsBytesFault : Descriptor → List ℕ → LayoutFault → Type 0
IsBytesFault k bytes (fault.Corrupt named) = (named ≡ k) × (Matches k bytes → ⊥)
IsBytesFault k bytes fault.Memory = Unit {0}
IsBytesFault k bytes (fault.BadManifest named e) = (named ≡ k) × Matches k bytes × (cause : Fault) × (succ_of k bytes ≡ Err cause) × IsFault e cause
IsBytesFault k bytes other = ⊥

-- the file of a key is not a good manifest, or a read failed, or memory ran out; `is_next` says
-- which key it is
abbrev pub IsManifestFault : Device → (Descriptor → Type 0) → LayoutFault → Type 0
IsManifestFault dir is_next fault.Device = dir.fails_reads ≡ true
IsManifestFault dir is_next (fault.Corrupt k) = dir.is_honest → is_next k × IsCorrupt dir.file k
IsManifestFault dir is_next fault.Memory = Unit {0}
IsManifestFault dir is_next (fault.BadManifest k e) = dir.is_honest → is_next k × IsUnread dir.file k e
IsManifestFault dir is_next other = ⊥

-- the file of a key is damaged, or a read failed, or memory ran out
abbrev pub IsDamageFault : Device → Descriptor → LayoutFault → Type 0
IsDamageFault dir k fault.Device = dir.fails_reads ≡ true
IsDamageFault dir k (fault.Corrupt named) = dir.is_honest → (named ≡ k) × (IsCorrupt dir.file k ⊎ IsOfOtherSize dir.file k)
IsDamageFault dir k fault.Memory = Unit {0}
IsDamageFault dir k (fault.BadManifest named e) = dir.is_honest → (named ≡ k) × IsUnread dir.file k e
IsDamageFault dir k other = ⊥

-- a fault says that the file of a manifest is damaged
abbrev pub IsDamage : LayoutFault → Type 0
IsDamage (fault.Corrupt k) = Unit {0}
IsDamage (fault.BadManifest k e) = Unit {0}
IsDamage other = ⊥

-- why the file of a key was not taken, if a layout is opened as it is or not
abbrev pub IsStepFault : Bool → Device → Descriptor → LayoutFault → Type 0
IsStepFault true dir k e = IsDamageFault dir k e
IsStepFault false dir k e = IsManifestFault dir (λ named. named ≡ k) e

-- why a walk failed: for a manifest that is damaged only if the layout is not opened as it is
pub record IsWalkFault (as_is : Bool) (dir : Device) (is_next : Descriptor → Type 0) (e : LayoutFault) : Type 0 where
  pub cause : IsManifestFault dir is_next e
  pub strict : IsDamage e → as_is ≡ false
