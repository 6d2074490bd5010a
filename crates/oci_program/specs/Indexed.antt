-- A folder whose `index.json` is lost.
use Rattle.std.specs.Prelude.{◌≡◌, ◌⊎◌, true, ℕ, List, [], codes, IsSome}
use Rattle.oci_dir.specs.Device.{Device, File}
use Rattle.oci_dir.specs.Prunable.{ListsFolder}
use Rattle.oci_layout_store.specs.Index.{index_file}
use Rattle.oci_layout_store.specs.declared.fault.LayoutFault.TheVariants as layout
use Rattle.oci_program.specs.declared.fault.ProgramFault.{ProgramFault}
use Rattle.oci_program.specs.declared.fault.ProgramFault.TheVariants as program

-- no folder of blobs has a file
pub record HasNoBlobs (file : File) : Type 0 where
  pub sha256 : ListsFolder file (codes "blobs/sha256") []
  pub sha512 : ListsFolder file (codes "blobs/sha512") []

-- there is an `index.json`, or there are no blobs
abbrev pub HasIndexOrNoBlobs : File → Type 0
HasIndexOrNoBlobs file = IsSome (file index_file) ⊎ HasNoBlobs file

-- a directory is refused of which this does not hold, or that cannot be read
abbrev pub IsRefusedWithout : Device → Type 0 → ProgramFault → Type 0
IsRefusedWithout dir holds program.NoIndex = dir.is_honest → holds → ⊥
IsRefusedWithout dir holds (program.Destination layout.Device) = dir.fails_reads ≡ true
IsRefusedWithout dir holds (program.Destination layout.Memory) = Unit {0}
IsRefusedWithout dir holds e = ⊥
