-- The numbers of the faults.
use Rattle.std.specs.Prelude.{ℕ}
use Rattle.oci_layout_store.specs.Numbers.{layout_number}
use Rattle.oci_prune_fault.specs.declared.fault.PruneFault.{PruneFault}
use Rattle.oci_prune_fault.specs.declared.fault.PruneFault.TheVariants as fault

-- the number of a fault
abbrev pub prune_number : PruneFault → ℕ
prune_number (fault.NotRemoved path) = 79
prune_number (fault.Fetch k e) = 88
prune_number (fault.Layout e) = layout_number e
prune_number fault.Memory = 89
prune_number (fault.Unknown k) = 96
prune_number fault.NoTags = 97
prune_number (fault.LinkedBlobs path) = 98
