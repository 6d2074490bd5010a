-- Why files were not checked.
use Rattle.std.specs.Prelude.{◌≡◌, ◌≤◌, ◌<◌, ℕ, true, false, List, length}
use Rattle.oci_dir.specs.Device.{Device}
use Rattle.oci_manifest.specs.Descriptor.{Descriptor}
use Rattle.oci_store.specs.Graph.{Node}
use Rattle.oci_store.specs.Keyed.{has_key}
use Rattle.oci_store.specs.declared.fault.FetchFault.{FetchFault}
use Rattle.oci_store.specs.declared.fault.FetchFault.TheVariants as fetch
use Rattle.oci_pool.specs.declared.fault.PoolFault.{PoolFault}
use Rattle.oci_pool.specs.declared.fault.PoolFault.TheVariants as pool
use Rattle.oci_verify.specs.declared.fault.VerifyFault.{VerifyFault}
use Rattle.oci_verify.specs.declared.fault.VerifyFault.TheVariants as fault

-- the number of a fault
abbrev pub number_of : VerifyFault → ℕ
number_of fault.Device = 22
number_of (fault.Incomplete n) = 61
number_of fault.BadWorkers = 62
number_of fault.Memory = 63

-- why the file of a key was not read, or was found wrong
abbrev pub IsReadFault : Device → List Node → Descriptor → FetchFault → Type 0
IsReadFault dir graph k fetch.NotFound = has_key graph k ≡ false
IsReadFault dir graph k fetch.Corrupt = Unit {0}
IsReadFault dir graph k fetch.Device = dir.fails_reads ≡ true
IsReadFault dir graph k fetch.Memory = Unit {0}

-- why it is not known whether the file of a key matches it
abbrev pub IsCheckFault : Device → List Node → Descriptor → FetchFault → Type 0
IsCheckFault dir graph k fetch.Corrupt = ⊥
IsCheckFault dir graph k other = IsReadFault dir graph k other

-- why it is not known whether the file of a held key matches it
abbrev pub IsHeldFault : Device → FetchFault → Type 0
IsHeldFault dir fetch.NotFound = ⊥
IsHeldFault dir fetch.Corrupt = ⊥
IsHeldFault dir fetch.Device = dir.fails_reads ≡ true
IsHeldFault dir fetch.Memory = Unit {0}

-- why a run by at most 64 workers that check the files of a layout stopped
abbrev pub IsRunFault : Device → List Node → PoolFault FetchFault → Type 0
IsRunFault dir graph (pool.Job n f) = IsHeldFault dir f
IsRunFault dir graph (pool.Incomplete n) = n < length graph
IsRunFault dir graph pool.BadWorkers = ⊥
IsRunFault dir graph pool.Memory = Unit {0}

-- why the files of a layout were not checked by this number of workers
abbrev pub IsVerifyFault : ℕ → Device → List Node → VerifyFault → Type 0
IsVerifyFault workers dir graph fault.Device = (workers ≤ 64) × (dir.fails_reads ≡ true)
IsVerifyFault workers dir graph (fault.Incomplete n) = (workers ≤ 64) × (n < length graph)
IsVerifyFault workers dir graph fault.BadWorkers = 64 < workers
IsVerifyFault workers dir graph fault.Memory = workers ≤ 64
