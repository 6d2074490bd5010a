-- The directories of a repair: that of the layout, and those of its sources.
use Rattle.std.specs.Prelude.{◌≡◌, true, List, ◌∷◌, map, Contains}
use Rattle.std.specs.List.{All}
use Rattle.oci_dir.specs.Device.{Device, File}
use Rattle.oci_repair.specs.declared.source.RepairSource.{RepairSource}
use Rattle.oci_repair.specs.declared.source.RepairSource.TheVariants as source

-- the meaning of a source's directory, by the meanings of folders and of archives
abbrev pub device_in : {F A : Type 0} → (F → Device) → (A → Device) → RepairSource F A → Device
device_in folder archive (source.Folder dir) = folder dir
device_in folder archive (source.Archive dir) = archive dir

-- the files of the sources
abbrev pub files_in : {F A : Type 0} → (F → Device) → (A → Device) → List (RepairSource F A) → List File
files_in folder archive sources = map (λ s. (device_in folder archive s).file) sources

-- the sources are honest
abbrev pub AreHonest : {F A : Type 0} → (F → Device) → (A → Device) → List (RepairSource F A) → Type 0
AreHonest folder archive sources = All (λ s. (device_in folder archive s).is_honest) sources

-- the reads of one of the sources may fail
abbrev pub AnyFails : {F A : Type 0} → (F → Device) → (A → Device) → List (RepairSource F A) → Type 0
AnyFails {F} {A} folder archive sources = (s : RepairSource F A) × Contains sources s × ((device_in folder archive s).fails_reads ≡ true)
