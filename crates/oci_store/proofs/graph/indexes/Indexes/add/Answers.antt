use Rattle.std.proofs.Common.{◌≡◌, None, Some, cond, length, subst, ◌∙◌}
use Rattle.std.specs.BTreeMap.{Updates, get}
use Rattle.std.specs.Ordering.{is_eq}
use Rattle.oci_manifest.specs.Descriptor.{Descriptor, key_cmp}
use Rattle.oci_store.proofs.Indexes.{IsIndexed-pushed, IsIndexed-back}
use Rattle.oci_store.proofs.graph.indexes.Indexes.add.Goals as goal

pub returns-in-Ok-clause-noted : goal.returns-in-Ok-clause-noted
returns-in-Ok-clause-noted c =
    let graph = c.args.nodes.now in
    let node = c.args.node.now in
    let old = c.args.self.now in
    let updates = subst (λ (k : Descriptor). Updates key_cmp old.places c.insert.new.self k (Some (length graph))) (c.in_ok-key.ensures ∙ c.key.ensures) c.in_ok-insert.ensures.updates in
    IsIndexed-pushed graph node old.places c.insert.new.self old.predecessors.lists c.add_key.new.predecessors.lists old.by_digest.keys c.add_key.new.by_digest.keys
    c.requires.indexed c.requires.new c.requires.key updates c.in-Ok.ensures.listed c.in-Ok.ensures.digest

pub returns-in-Err-clause-refused : goal.returns-in-Err-clause-refused
returns-in-Err-clause-refused c =
    let graph = c.args.nodes.now in
    let node = c.args.node.now in
    let old = c.args.self.now in
    let updates = subst (λ (k : Descriptor). Updates key_cmp old.places c.insert.new.self k (Some (length graph))) (c.in_ok-key.ensures ∙ c.key.ensures) c.in_ok-insert.ensures.updates in
    IsIndexed-back graph node old.places c.insert.new.self c.forget_place.new.places old.predecessors.lists c.add_key.new.predecessors.lists old.by_digest.keys c.add_key.new.by_digest.keys
    c.requires.indexed c.requires.new updates
    (subst (λ (k : Descriptor). (other : Descriptor) → get key_cmp c.forget_place.new.places other ≡ cond (is_eq (key_cmp k other)) None (get key_cmp c.insert.new.self other)) c.key-in-Err.ensures c.forget_place.ensures.0)
    c.in-Err.ensures.unlisted c.in-Err.ensures.no_digest
