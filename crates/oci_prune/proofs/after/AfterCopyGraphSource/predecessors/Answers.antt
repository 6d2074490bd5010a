use Rattle.std.proofs.Common.{◌≡◌, ◌&&◌, Bool, not, List, filter, sym, subst}
use Rattle.std.specs.BTreeSet.{contains}
use Rattle.oci_manifest.specs.Descriptor.{Descriptor, key_cmp}
use Rattle.oci_store.specs.Keyed.{has_key}
use Rattle.oci_prune.proofs.Arriving.{Adds, added_twice, before_after, held_by_keys}
use Rattle.oci_prune.proofs.after.AfterCopyGraphSource.predecessors.Goals as goal

pub returns : goal.returns
returns g c =
    let s = c.args.self.now in
    let source = g.S.Store.state s.source.now in
    let old = g.D.Store.state s.destination.now in
    let here = c.in_ok-predecessors.field-0.items in
    let from = c.in_ok-predecessors-2.field-0.items in
    let new = c.in_ok-new_among.field-0.items in
    let is_new : Descriptor → Bool = λ k. contains key_cmp s.arriving.now k && not (has_key old.entries k) in
    let is : new ≡ filter is_new from = rw (← c.deref-2.ensures.value) c.in_ok-new_among.ensures in
    let one = subst (λ (ks : List Descriptor). Adds ks c.new-all.result c.add_keys.new.set) c.deref.ensures.value c.in_ok-add_keys.ensures in
    let two = subst (λ (ks : List Descriptor). Adds ks c.add_keys.new.set c.add_keys-2.new.set) c.deref-3.ensures.value c.in_ok-add_keys-2.ensures in
    let two = subst (λ (ks : List Descriptor). Adds ks c.add_keys.new.set c.add_keys-2.new.set) is two in
    before_after s.arriving.now source.nodes old.nodes (has_key old.entries) c.args.key.now here from c.in_ok-keys.keys.items (λ k. sym (held_by_keys old.nodes old.entries k (g.D.Store.same_keys s.destination.now)))
    c.in_ok-predecessors.ensures c.in_ok-predecessors-2.ensures (added_twice c.new-all.result c.add_keys.new.set c.add_keys-2.new.set here (filter is_new from) c.in_ok-keys.keys.items c.new-all.ensures.empty one two c.in_ok-keys.ensures.keys) c.in_ok-keys.ensures.order
