use Rattle.std.proofs.Common.{◌≡◌, false, List, take, sym, ap, subst, ◌∙◌, arith}
use Rattle.oci_store.specs.Graph.{Node}
use Rattle.oci_store.specs.Keyed.{has_key, HasDistinctKeys}
use Rattle.oci_store.proofs.Indexes.{absent_before}
use Rattle.oci_store.proofs.graph.Graph.try_clone.Goals as goal

pub push-requires : goal.push-requires
push-requires c =
    let i = c.loop-node.node-index in
    let nodes = c.deref-node-items.result.now in
    let distinct = subst (λ (g : List Node). HasDistinctKeys g) (sym c.deref-node-items.ensures.value) c.self.invariant.distinct in
    let absent = absent_before nodes i c.node-item.result distinct (omega arith) c.node-item.is in
    record {
      new = ap (λ (g : List Node). has_key g c.key.result.now) c.loop-node.invariant ∙ ap (has_key (take i c.args.self.now)) c.key.ensures
          ∙ subst (λ (g : List Node). has_key (take i g) c.node-item.result.0 ≡ false) (c.deref-node-items.ensures.value ∙ c.self.view_is) absent;
    }
