-- The faults of a copy: their numbers, and how a fault from below is reported.
use Rattle.std.specs.Prelude.{ℕ, Option, Some, None}
use Rattle.oci_manifest.specs.Descriptor.{Descriptor}
use Rattle.oci_store.specs.declared.fault.FetchFault.{FetchFault}
use Rattle.oci_store.specs.declared.fault.FetchFault.TheVariants as fetch
use Rattle.oci_store.specs.declared.fault.PushFault.{PushFault}
use Rattle.oci_store.specs.declared.fault.PushFault.TheVariants as push
use Rattle.oci_store.specs.declared.fault.RefFault.{RefFault}
use Rattle.oci_store.specs.declared.fault.RefFault.TheVariants as reference
use Rattle.oci_plan.specs.declared.fault.PlanFault.{PlanFault}
use Rattle.oci_plan.specs.declared.fault.PlanFault.TheVariants as plan
use Rattle.oci_pool.specs.declared.fault.PoolFault.{PoolFault}
use Rattle.oci_pool.specs.declared.fault.PoolFault.TheVariants as pool
use Rattle.oci_copy.specs.declared.fault.CopyFault.{CopyFault}
use Rattle.oci_copy.specs.declared.fault.CopyFault.TheVariants as fault

-- the number of a fault
abbrev pub number_of : CopyFault → ℕ
number_of (fault.DestinationOpen holder missing) = 80
number_of (fault.Plan e) = 81
number_of (fault.Push k e) = 82
number_of (fault.Stuck k) = 83
number_of (fault.Incomplete k) = 84
number_of fault.BadWorkers = 85
number_of fault.Memory = 86
number_of (fault.Reference e) = 87
number_of (fault.Fetch k e) = 88

-- a fault that is only returned before the first push
abbrev pub IsEarly : CopyFault → Type 0
IsEarly (fault.DestinationOpen holder missing) = Unit {0}
IsEarly (fault.Plan e) = Unit {0}
IsEarly fault.BadWorkers = Unit {0}
IsEarly (fault.Reference e) = Unit {0}
IsEarly e = ⊥

-- the fault of a copy that has no plan
abbrev pub of_plan : PlanFault → CopyFault
of_plan plan.Memory = fault.Memory
of_plan e = fault.Plan e

-- the fault of a copy whose fetch of this key is refused
abbrev pub of_fetch : Descriptor → FetchFault → CopyFault
of_fetch k fetch.Memory = fault.Memory
of_fetch k e = fault.Fetch k e

-- the fault of a copy whose push of this key is refused: the copy is stuck if the destination has
-- the key or lacks one that the content lists
abbrev pub of_push : Descriptor → PushFault → CopyFault
of_push k push.AlreadyExists = fault.Stuck k
of_push k (push.MissingSuccessor missing) = fault.Stuck k
of_push k push.Memory = fault.Memory
of_push k e = fault.Push k e

-- the fault of a copy whose reference is refused
abbrev pub of_reference : RefFault → CopyFault
of_reference reference.Memory = fault.Memory
of_reference e = fault.Reference e

-- the fault of a copy whose run of workers stopped: that of a job, or a memory error; if the run is
-- only incomplete there is none, and the copy waits
abbrev pub reported_fault : PoolFault CopyFault → Option CopyFault
reported_fault (pool.Job k e) = Some e
reported_fault (pool.Incomplete k) = None
reported_fault pool.BadWorkers = None
reported_fault pool.Memory = Some fault.Memory
