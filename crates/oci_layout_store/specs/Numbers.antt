-- The numbers of the faults of a layout.
use Rattle.std.specs.Prelude.{ℕ}
use Rattle.oci_layout_store.specs.declared.fault.LayoutFault.{LayoutFault}
use Rattle.oci_layout_store.specs.declared.fault.LayoutFault.TheVariants as layout

-- the number of a layout's fault
abbrev pub layout_number : LayoutFault → ℕ
layout_number layout.NoLayoutFile = 70
layout_number layout.BadLayoutFile = 71
layout_number layout.BadVersion = 72
layout_number (layout.BadIndex e) = 73
layout_number layout.Device = 74
layout_number (layout.Corrupt k) = 75
layout_number layout.Memory = 76
layout_number (layout.BadManifest k e) = 77
layout_number layout.AlreadyLayout = 78
