use Rattle.std.proofs.Common.{◌≡◌, List, None, cond, not, ◌&&◌, subst}
use Rattle.std.specs.BTreeMap.{get}
use Rattle.std.specs.BTreeSet.{contains}
use Rattle.std.specs.Ordering.{is_eq}
use Rattle.oci_manifest.specs.Descriptor.{Descriptor, key_cmp, same_key}
use Rattle.oci_store.specs.ByDigest.{digest_cmp}
use Rattle.oci_store.proofs.Predecessors.{IsForgottenAt}
use Rattle.oci_store.proofs.Indexes.{IsIndexed-forgotten}
use Rattle.oci_store.proofs.graph.indexes.Indexes.forget.Goals as goal

pub returns : goal.returns
returns c = λ graph h.
    let node = c.args.node in
    let old = c.args.self.now in
    let lists = c.forget_all.new.self.lists in
    let keys = c.remove.new.self.keys in
    IsIndexed-forgotten graph node old.places c.forget_place.new.places old.predecessors.lists lists old.by_digest.keys keys h
    (subst (λ (k : Descriptor). (other : Descriptor) → get key_cmp c.forget_place.new.places other ≡ cond (is_eq (key_cmp k other)) None (get key_cmp old.places other)) c.key.ensures c.forget_place.ensures.0)
    (subst (λ (k : Descriptor). IsForgottenAt old.predecessors.lists lists k node.1) c.key-2.ensures (subst (λ (ks : List Descriptor). IsForgottenAt old.predecessors.lists lists c.key-2.result.now ks) c.successors.ensures c.forget_all.ensures))
    (subst (λ (k : Descriptor). (other : Descriptor) → contains digest_cmp keys other ≡ (contains digest_cmp old.by_digest.keys other && not (same_key k other))) c.into_key.ensures c.remove.ensures)
