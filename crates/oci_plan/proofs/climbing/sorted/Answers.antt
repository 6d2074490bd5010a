use Rattle.std.proofs.lemmas.Map.Keys.{IsDistinct-IsPermutation}
use Rattle.oci_manifest.specs.Descriptor.{same_key}
use Rattle.oci_store.proofs.KeyOrder.{same_key_laws}
use Rattle.oci_plan.proofs.Sorts.{IsStrictlySortedBy-from_sort}
use Rattle.oci_plan.proofs.climbing.sorted.Goals as goal

pub returns-clause-order : goal.returns-clause-order
returns-clause-order c =
    IsStrictlySortedBy-from_sort c.sort.new.self.items c.in_ok-sort.ensures.sorted (IsDistinct-IsPermutation same_key same_key_laws.symm c.args.keys.items c.sort.new.self.items c.sort.ensures.permutation c.requires)
