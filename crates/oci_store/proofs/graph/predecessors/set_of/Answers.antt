use Rattle.std.proofs.Common.{◌≡◌, true, cond, subst}
use Rattle.std.specs.BTreeSet.{contains}
use Rattle.std.specs.Ordering.{is_eq}
use Rattle.oci_manifest.specs.Descriptor.{Descriptor, key_cmp}
use Rattle.oci_store.proofs.Predecessors.{in_set-more}
use Rattle.oci_store.proofs.graph.predecessors.set_of.Goals as goal

pub loop-key-preserved : goal.loop-key-preserved
loop-key-preserved c =
    let set = c.loop-key.set in
    let more = c.insert.new.self in
    in_set-more c.args.keys.now set more c.loop-key.key-index c.key-item.result c.loop-key-test.true c.key-item.is c.loop-key.invariant
    (subst (λ (k : Descriptor). (other : Descriptor) → contains key_cmp more other ≡ cond (is_eq (key_cmp k other)) true (contains key_cmp set other)) c.in_ok-try_clone.ensures c.in_ok-insert.ensures.updates.0)
