use Rattle.oci_store.proofs.Leaves.{IsChecked-leaf}
use Rattle.oci_store.proofs.content.CheckedContent.of_leaf.Goals as goal

pub invariant_of-result : goal.invariant_of-result
invariant_of-result c =
    let e = c.in_ok-try_clone.ensures in
    rw e (IsChecked-leaf c.args.key.now c.args.bytes c.new.result.items c.requires.leaf c.requires.matching c.new.ensures.items)
