-- A directory after the creation of an empty layout in it, or after that failed.
use Rattle.std.specs.Prelude.{◌≡◌, ◌↔◌, ◌≤◌, ◌<◌, ◌⊎◌, [], false, Some, None, is_some}
use Rattle.oci_layout_store.specs.Blobs.{IsSound}
use Rattle.oci_dir.specs.Device.{Device, File, TouchesTwo}
use Rattle.oci_layout_store.specs.Files.{HasFiles}
use Rattle.oci_layout_store.specs.Index.{layout_file, index_file, empty_index_text, HasFreshTexts}
use Rattle.oci_layout_store.specs.Lasts.{Lasts}
use Rattle.oci_layout_store.specs.Layout.{no_index}
use Rattle.oci_layout_store.specs.BlobFiles.{IsDirFault}
use Rattle.oci_layout_store.specs.Refusal.{IsCreateFault}
use Rattle.oci_layout_store.specs.declared.fault.LayoutFault.{LayoutFault}
use Rattle.oci_layout_store.specs.declared.fault.LayoutFault.TheVariants as fault

-- the files are the ones of an empty layout, to the byte
pub record IsFresh (file : File) : Type 0 where
  pub files : HasFiles file [] [] [] no_index
  pub texts : HasFreshTexts file

-- the directory has no index, or the one of an empty layout
abbrev pub IsFree : File → Type 0
IsFree file = (file index_file ≡ None) ⊎ (file index_file ≡ Some empty_index_text)

-- why a layout may not be created in a directory without `oci-layout`: it has another index, or the
-- index cannot be read
abbrev pub IsNotFree : Device → LayoutFault → Type 0
IsNotFree dir fault.NoLayoutFile = dir.is_honest → IsFree dir.file → ⊥
IsNotFree dir e = IsDirFault dir e

-- an empty layout was created in a directory
pub record IsCreated (old new : Device) : Type 0 where
  -- it had no file `oci-layout`
  pub absent : old.is_honest → is_some (old.file layout_file) ≡ false
  -- it has the files of an empty layout, and is sound as one
  pub fresh : old.is_honest → IsFresh new.file
  pub sound : old.is_honest → IsSound new.is_honest new.file []
  -- it lasts: a crash leaves these files
  pub lasts : old.is_honest → Lasts new [] []
  -- no other file changed, and no put failed
  pub other : old.is_honest → TouchesTwo old.file new.file layout_file index_file
  pub calm : new.failures ≡ old.failures

-- no layout was created in a directory, for this reason
pub record IsNotCreated (old new : Device) (e : LayoutFault) : Type 0 where
  pub cause : IsCreateFault old new e
  -- no file but the two of an empty layout changed, and the directory is as honest as before
  pub other : old.is_honest → TouchesTwo old.file new.file layout_file index_file
  pub honest : old.is_honest ↔ new.is_honest
  -- if a put failed, which is counted, the fault is that of the device
  pub raised : old.failures < new.failures → e ≡ fault.Device
  pub failures : old.failures ≤ new.failures

-- no layout was created in a directory, which is returned with the fault
pub record IsRefused {D : Type 0} (device : D → Device) (old : D) (refused : D × LayoutFault) : Type 0 where
  pub not_created : IsNotCreated (device old) (device refused.0) refused.1
  -- if it has a file `oci-layout`, it is unchanged
  pub same : refused.1 ≡ fault.AlreadyLayout → refused.0 ≡ old
