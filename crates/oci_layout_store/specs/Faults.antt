-- How the faults of a directory and of an index become faults of a layout.
use Rattle.oci_manifest.specs.declared.fault.ManifestFault.{ManifestFault}
use Rattle.oci_manifest.specs.declared.fault.ManifestFault.TheVariants as manifest
use Rattle.oci_dir.specs.declared.fault.DirFault.{DirFault}
use Rattle.oci_dir.specs.declared.fault.DirFault.TheVariants as dir
use Rattle.oci_layout_store.specs.declared.fault.LayoutFault.{LayoutFault}
use Rattle.oci_layout_store.specs.declared.fault.LayoutFault.TheVariants as layout

-- the fault of `create`, `open` and `save` for a directory's fault
abbrev pub of_device : DirFault → LayoutFault
of_device dir.Failed = layout.Device
of_device dir.Memory = layout.Memory

-- the fault of `open` for an index with this fault
abbrev pub of_index : ManifestFault → LayoutFault
of_index manifest.Memory = layout.Memory
of_index e = layout.BadIndex e
