-- How the faults of a directory become faults of a push.
use Rattle.oci_store.specs.declared.fault.PushFault.{PushFault}
use Rattle.oci_store.specs.declared.fault.PushFault.TheVariants as push
use Rattle.oci_dir.specs.declared.fault.DirFault.{DirFault}
use Rattle.oci_dir.specs.declared.fault.DirFault.TheVariants as dir

-- the fault of a push for a directory's fault
abbrev pub push_fault : DirFault → PushFault
push_fault dir.Failed = push.Device
push_fault dir.Memory = push.Memory
