-- Why a layout is not repaired.
use Rattle.std.specs.Prelude.{◌≡◌, ◌⊎◌, ℕ, true, List, Contains}
use Rattle.oci_dir.specs.Device.{Device}
use Rattle.oci_dir.specs.declared.fault.DirFault.{DirFault}
use Rattle.oci_dir.specs.declared.fault.DirFault.TheVariants as dir
use Rattle.oci_manifest.specs.Descriptor.{Descriptor}
use Rattle.oci_repair.specs.declared.fault.RepairFault.{RepairFault}
use Rattle.oci_repair.specs.declared.fault.RepairFault.TheVariants as fault

-- the number of a fault
abbrev pub number_of : RepairFault → ℕ
number_of fault.Source = 22
number_of fault.Memory = 63
number_of fault.Layout = 74
number_of (fault.Changed k) = 88

-- the fault of a file of the layout
abbrev pub of_layout : DirFault → RepairFault
of_layout dir.Failed = fault.Layout
of_layout dir.Memory = fault.Memory

-- the fault of a file of a source
abbrev pub of_source : DirFault → RepairFault
of_source dir.Failed = fault.Source
of_source dir.Memory = fault.Memory

-- why it is not known where the blobs of a layout are; `fails` states that the reads of a source may
-- fail
abbrev pub IsSearchFault : Device → Type 0 → RepairFault → Type 0
IsSearchFault dir fails fault.Source = fails
IsSearchFault dir fails fault.Memory = Unit {0}
IsSearchFault dir fails fault.Layout = dir.fails_reads ≡ true
IsSearchFault dir fails (fault.Changed k) = ⊥

-- why the files of these keys were not put
abbrev pub IsMendFault : List Descriptor → Type 0 → RepairFault → Type 0
IsMendFault keys fails fault.Source = fails
IsMendFault keys fails fault.Memory = Unit {0}
IsMendFault keys fails fault.Layout = Unit {0}
IsMendFault keys fails (fault.Changed k) = Contains keys k
