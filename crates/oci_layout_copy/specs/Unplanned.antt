-- Why a copy from a layout could not be planned.
use Rattle.std.specs.Prelude.{◌≡◌, ◌⊎◌, false, true}
use Rattle.oci_copy.specs.declared.fault.CopyFault.{CopyFault}
use Rattle.oci_copy.specs.declared.fault.CopyFault.TheVariants as copy
use Rattle.oci_dir.specs.Device.{Device}
use Rattle.oci_layout_store.specs.Opened.{is_damaged}
use Rattle.oci_layout_store.specs.Refusal.{IsDamageFault}
use Rattle.oci_layout_store.specs.declared.fault.LayoutFault.{LayoutFault}
use Rattle.oci_manifest.specs.Descriptor.{Descriptor}
use Rattle.oci_plan.specs.declared.fault.PlanFault.TheVariants as plan
use Rattle.oci_program.specs.declared.fault.ProgramFault.{ProgramFault}
use Rattle.oci_program.specs.declared.fault.ProgramFault.TheVariants as program

-- the file of a blob that the source does not hold is damaged, or could not be read
abbrev pub IsOfDamage : Device → Descriptor → ProgramFault → Type 0
IsOfDamage dir k e = (damage : LayoutFault) × IsDamageFault dir k damage × (e ≡ program.Layout damage)

-- the fault of a copy that could not be planned, from the layout in a directory: that of the damaged file
-- where the source lacks a blob since its file is damaged
abbrev pub IsUnplanned : Device → CopyFault → ProgramFault → Type 0
IsUnplanned dir (copy.Plan (plan.NotFound k)) e = IsOfDamage dir k e
    ⊎ ((e ≡ program.Copy (copy.Plan (plan.NotFound k))) × (dir.is_honest → is_damaged true dir.file k ≡ false))
IsUnplanned dir fault e = e ≡ program.Copy fault
