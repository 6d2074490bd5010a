-- The numbers of the faults of a directory.
use Rattle.std.specs.Prelude.{ℕ}
use Rattle.oci_dir.specs.declared.fault.DirFault.{DirFault}
use Rattle.oci_dir.specs.declared.fault.DirFault.TheVariants as dir

-- the number of a directory's fault
abbrev pub dir_number : DirFault → ℕ
dir_number dir.Failed = 90
dir_number dir.Memory = 91
