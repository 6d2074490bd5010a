-- Why a copy between two layouts is refused.
use Rattle.std.specs.Prelude.{◌≡◌, ◌⊎◌, ℕ, Bool, true}
use Rattle.oci_store.specs.Push.{IsRaised}
use Rattle.oci_copy.specs.declared.fault.CopyFault.{CopyFault}
use Rattle.oci_copy.specs.declared.fault.CopyFault.TheVariants as fault
use Rattle.oci_layout_store.specs.declared.fault.LayoutFault.{LayoutFault}
use Rattle.oci_layout_store.specs.declared.fault.LayoutFault.TheVariants as layout
use Rattle.oci_program.specs.declared.fault.ProgramFault.{ProgramFault}
use Rattle.oci_program.specs.declared.fault.ProgramFault.TheVariants as program

-- a copy between layouts is refused for a cause of the copy, or for a cause of the save after it
abbrev pub IsRefusedBetween : (CopyFault → Type 0) → (LayoutFault → Type 0) → ProgramFault → Type 0
IsRefusedBetween copy save (program.Copy e) = copy e
IsRefusedBetween copy save (program.Destination e) = save e
IsRefusedBetween copy save e = ⊥

-- why a layout was not saved: its directory could not say that a file is on the disk, or a file was not
-- put; `before` and `after` are the directory's counts of failed puts
abbrev pub IsSaveFault : Bool → ℕ → ℕ → LayoutFault → Type 0
IsSaveFault fails_reads before after layout.Device = ((fails_reads ≡ true) × (after ≡ before)) ⊎ IsRaised before after
IsSaveFault fails_reads before after layout.Memory = Unit {0}
IsSaveFault fails_reads before after e = ⊥

-- this holds after a refused copy, unless memory ran out
abbrev pub AfterRefusedCopy : Type 0 → ProgramFault → Type 0
AfterRefusedCopy holds (program.Copy fault.Memory) = Unit {0}
AfterRefusedCopy holds (program.Copy e) = holds
AfterRefusedCopy holds e = Unit {0}
