use Rattle.std.proofs.Common.{◌≡◌, List, subst, rules}
use Rattle.std.specs.List.Sorted.{IsStrictlySortedBy}
use Rattle.oci_manifest.specs.Descriptor.{Descriptor, key_cmp}
use Rattle.oci_layout_store.proofs.layout.loose.list_of.Goals as goal

pub returns-clause-order : goal.returns-clause-order
returns-clause-order c =
    let all : c.args.set.now.keys ≡ c.loop-key.list.items = search rules in
    subst (λ (ks : List Descriptor). IsStrictlySortedBy key_cmp ks) all c.iter-key-items.ensures.ordered
