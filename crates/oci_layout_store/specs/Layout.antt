-- The value of a layout, and what stays of it when a call changes it.
use Rattle.std.specs.Prelude.{◌≡◌, ◌↔◌, ℕ, Bool, true, false, List, [], filter}
use Rattle.oci_manifest.specs.Descriptor.{Descriptor}
use Rattle.oci_manifest.specs.MediaTypes.{kind_of}
use Rattle.oci_manifest.specs.declared.kind.Kind.{Kind}
use Rattle.oci_manifest.specs.declared.kind.Kind.TheVariants.{Leaf}
use Rattle.oci_store.specs.Graph.{Node}
use Rattle.oci_store.specs.Tags.{Tags}
use Rattle.oci_layout_store.specs.Blobs.{IsSound, blob_path, stored}
use Rattle.oci_dir.specs.Device.{Device, Same, SameDevice, Touches}
use Rattle.oci_layout_store.specs.Entries.{ReadIndex, nothing_read}

-- what a layout remembers of the index that it was opened from
pub record OpenedIndex : Type 0 where
  -- the keys of the entries that were not held, in the order of the index
  pub absent : List Descriptor
  -- the keys that were passed over since their files are damaged, in the order in which they were
  -- visited
  pub damaged : List Descriptor
  -- what the index says, if the layout was opened as it is, and otherwise nothing
  pub content : ReadIndex

-- whether a kind is that of a manifest
abbrev pub is_manifest : Kind → Bool
is_manifest Leaf = false
is_manifest kind = true

-- those of these keys that are of a manifest kind
abbrev pub manifests_of : List Descriptor → List Descriptor
manifests_of keys = filter (λ k. is_manifest (kind_of k.media_type)) keys

-- a layout that was created was opened from no index
abbrev pub no_index : OpenedIndex
no_index = record { absent = []; damaged = []; content = nothing_read }

-- the value of a layout: its directory, and what it has in memory
pub record LayoutState (D : Type 0) : Type 0 where
  pub dir : D
  -- the held keys, each with the keys that it lists
  pub graph : List Node
  -- the names, each with its key
  pub tags : Tags
  pub opened : OpenedIndex

-- a layout has the same in memory
pub record SameMemory {D : Type 0} (old new : LayoutState D) : Type 0 where
  pub graph : new.graph ≡ old.graph
  pub tags : new.tags ≡ old.tags
  pub opened : new.opened ≡ old.opened

-- only files that no held key needs changed: the layout has the same in memory, and the same bytes
-- under each key, and is sound if it was
pub record OnlyFiles {D : Type 0} (device : D → Device) (old new : LayoutState D) : Type 0 where
  pub memory : SameMemory old new
  pub contents : (device old.dir).is_honest → stored (device new.dir).file old.graph ≡ stored (device old.dir).file old.graph
  pub sound : IsSound (device old.dir).is_honest (device old.dir).file old.graph → IsSound (device new.dir).is_honest (device new.dir).file new.graph

-- no file but the one at the path changed, which no held key needs: the layout has the same in
-- memory, and the same bytes under each key
pub record OnlyFile {D : Type 0} (device : D → Device) (old new : LayoutState D) (path : List ℕ) : Type 0 where
  pub other : (device old.dir).is_honest → Touches (device old.dir).file (device new.dir).file path
  pub files : OnlyFiles device old new
  pub draft : (device old.dir).is_honest → Same (device old.dir).draft (device new.dir).draft
  -- besides its files the directory is the same
  pub same : SameDevice (device old.dir) (device new.dir)

-- a push changed no file but the one of its digest, and what was opened stays; the directory's reads
-- may fail exactly if they could before
pub record OnlyBlob {D : Type 0} (device : D → Device) (old new : LayoutState D) (digest : List ℕ) : Type 0 where
  pub files : (device old.dir).is_honest → Touches (device old.dir).file (device new.dir).file (blob_path digest)
  pub honest : (device old.dir).is_honest ↔ (device new.dir).is_honest
  pub reads : (device new.dir).fails_reads ≡ (device old.dir).fails_reads
  pub opened : new.opened ≡ old.opened

-- only tags changed
pub record OnlyTags {D : Type 0} (old new : LayoutState D) : Type 0 where
  pub dir : new.dir ≡ old.dir
  pub graph : new.graph ≡ old.graph
  pub opened : new.opened ≡ old.opened

-- only what the layout remembers of its index changed
pub record OnlyIndex {D : Type 0} (old new : LayoutState D) : Type 0 where
  pub dir : new.dir ≡ old.dir
  pub graph : new.graph ≡ old.graph
  pub tags : new.tags ≡ old.tags
