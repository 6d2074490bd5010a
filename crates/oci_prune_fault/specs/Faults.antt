-- How faults from below become faults of a prune.
use Rattle.oci_manifest.specs.Descriptor.{Descriptor}
use Rattle.oci_manifest.specs.declared.fault.ManifestFault.{ManifestFault}
use Rattle.oci_manifest.specs.declared.fault.ManifestFault.TheVariants as manifest
use Rattle.oci_store.specs.declared.fault.FetchFault.{FetchFault}
use Rattle.oci_store.specs.declared.fault.FetchFault.TheVariants as fetch
use Rattle.oci_layout_store.specs.declared.fault.LayoutFault.{LayoutFault}
use Rattle.oci_layout_store.specs.declared.fault.LayoutFault.TheVariants as layout
use Rattle.oci_prune_fault.specs.declared.fault.PruneFault.{PruneFault}
use Rattle.oci_prune_fault.specs.declared.fault.PruneFault.TheVariants as fault

-- the fault of a prune whose fetch of this key is refused
abbrev pub of_fetch : Descriptor → FetchFault → PruneFault
of_fetch k fetch.Memory = fault.Memory
of_fetch k e = fault.Fetch k e

-- the fault of a prune for a manifest that cannot be read
abbrev pub of_manifest : Descriptor → ManifestFault → PruneFault
of_manifest k manifest.Memory = fault.Memory
of_manifest k e = fault.Layout (layout.BadManifest k e)

-- the fault of a prune for a fault of the layout
abbrev pub of_layout : LayoutFault → PruneFault
of_layout layout.Memory = fault.Memory
of_layout e = fault.Layout e
