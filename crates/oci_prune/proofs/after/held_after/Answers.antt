use Rattle.std.proofs.Common.{◌≡◌, List, filter, sym, subst}
use Rattle.oci_manifest.specs.Descriptor.{Descriptor}
use Rattle.oci_store.specs.Keyed.{has_key}
use Rattle.oci_prune.proofs.Arriving.{Adds, added_twice, are_held_after, held_by_keys}
use Rattle.oci_prune.proofs.after.held_after.Goals as goal

pub returns : goal.returns
returns g c =
    let s = c.args.after.now in
    let source = g.S.Store.state s.source.now in
    let there = s.destination.now.graph in
    let held = c.in_ok-held_keys.field-0.items in
    let arriving = c.in_ok-arriving.arriving.items in
    let is : c.in_ok-held_among.field-0.items ≡ filter (has_key source.entries) arriving = rw (← c.deref-2.ensures.value) c.in_ok-held_among.ensures in
    let one = subst (λ (ks : List Descriptor). Adds ks c.new-held.result c.add_keys.new.set) c.deref.ensures.value c.in_ok-add_keys.ensures in
    let two = subst (λ (ks : List Descriptor). Adds ks c.add_keys.new.set c.add_keys-2.new.set) c.deref-3.ensures.value c.in_ok-add_keys-2.ensures in
    let two = subst (λ (ks : List Descriptor). Adds ks c.add_keys.new.set c.add_keys-2.new.set) is two in
    are_held_after s.arriving.now source.nodes there (has_key source.entries) held arriving c.in_ok-keys.keys.items (λ k. sym (held_by_keys source.nodes source.entries k (g.S.Store.same_keys s.source.now)))
    c.in_ok-held_keys.ensures c.in_ok-arriving.ensures.keys (added_twice c.new-held.result c.add_keys.new.set c.add_keys-2.new.set held (filter (has_key source.entries) arriving) c.in_ok-keys.keys.items c.new-held.ensures.empty one two c.in_ok-keys.ensures.keys)
    c.in_ok-keys.ensures.order
