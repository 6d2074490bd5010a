use Rattle.std.proofs.Common.{◌≡◌, ◌+◌, List, true, cond, take, subst}
use Rattle.std.specs.BTreeSet.{contains}
use Rattle.std.specs.Ordering.{is_eq}
use Rattle.std.proofs.lemmas.List.{take_all}
use Rattle.oci_manifest.specs.Descriptor.{Descriptor, key_cmp}
use Rattle.oci_layout_store.proofs.Loose.{HasKeys-more, HasKeys-nil}
use Rattle.oci_prune.proofs.Elements.{next_element}
use Rattle.oci_layout_copy.specs.PlannedMirror.{HasKeys}
use Rattle.oci_layout_copy.proofs.planned.set_of_keys.Goals as goal

pub loop-key-init : goal.loop-key-init
loop-key-init c = HasKeys-nil c.new-set.result c.new-set.ensures.empty

pub loop-key-preserved : goal.loop-key-preserved
loop-key-preserved c =
    let i = c.loop-key.key-index in
    let keys = c.args.keys.now in
    let key = c.key-item.result in
    HasKeys-more c.loop-key.set c.insert.new.self (take i keys) (take (i + 1) keys) key c.loop-key.invariant (next_element keys i key c.loop-key-test.true c.key-item.is)
    (λ other. subst (λ (x : Descriptor). contains key_cmp c.insert.new.self other ≡ cond (is_eq (key_cmp x other)) true (contains key_cmp c.loop-key.set other)) c.in_ok-try_clone.ensures (c.in_ok-insert.ensures.updates.0 other))

pub returns : goal.returns
returns c = subst (λ (ks : List Descriptor). HasKeys c.loop-key.set ks) (take_all c.loop-key.key-index c.args.keys.now c.loop-key-test.false) c.loop-key.invariant
