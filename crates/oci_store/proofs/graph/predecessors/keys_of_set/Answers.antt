use Rattle.std.proofs.Common.{◌≡◌, List, sym, subst, rules}
use Rattle.std.specs.List.Sorted.{IsStrictlySortedBy}
use Rattle.oci_manifest.specs.Descriptor.{Descriptor, key_cmp}
use Rattle.oci_store.proofs.graph.predecessors.keys_of_set.Goals as goal

pub returns-clause-order : goal.returns-clause-order
returns-clause-order c =
    let all : c.loop-key.keys.items ≡ c.args.set.now.keys = search rules in
    subst (λ (keys : List Descriptor). IsStrictlySortedBy key_cmp keys) (sym all) c.iter-key-items.ensures.ordered
