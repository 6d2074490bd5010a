use Rattle.std.proofs.Common.{◌≡◌, true, false, List, [], ◌∷◌, ◌++◌, take, filter, slice_get, Some, sym, ap, ◌∙◌}
use Rattle.std.specs.BTreeSet.{contains}
use Rattle.oci_manifest.specs.Descriptor.{Descriptor, key_cmp}
use Rattle.oci_store.specs.Graph.{Node}
use Rattle.oci_store.specs.Keyed.{has_key}
use Rattle.oci_layout_store.proofs.Retained.{node_at, filter-kept, filter-dropped, fresh-at}
use Rattle.oci_layout_store.proofs.layout.retain.retain_at.Goals as goal

pub returns-then-not-contains : goal.returns-then-not-contains
returns-then-not-contains c =
    let graph = c.args.graph.now in
    let i = c.args.place in
    let k = c.in-Some.key.now in
    let ks = c.in-Some-successors.successors.now in
    let at : slice_get graph i ≡ Some (k, ks) = node_at (slice_get graph i) k ks c.in-Some.ensures c.in-Some-successors.ensures in
    let dropped : contains key_cmp c.args.kept.now k ≡ false = sym c.contains.ensures ∙ c.if-not-contains.true in
    c.requires.before ∙ sym (filter-dropped (λ (n : Node). contains key_cmp c.args.kept.now n.0) graph i (k, ks) at dropped)

pub push-requires : goal.push-requires
push-requires c =
    let graph = c.args.graph.now in
    let i = c.args.place in
    let k = c.in-Some.key.now in
    let ks = c.in-Some-successors.successors.now in
    let at : slice_get graph i ≡ Some (k, ks) = node_at (slice_get graph i) k ks c.in-Some.ensures c.in-Some-successors.ensures in
    record { new = ap (λ (g : List Node). has_key g k) c.requires.before ∙ fresh-at (λ (n : Node). contains key_cmp c.args.kept.now n.0) graph i (k, ks) c.requires.distinct at }

pub returns : goal.returns
returns c =
    let graph = c.args.graph.now in
    let i = c.args.place in
    let k = c.in-Some.key.now in
    let ks = c.in-Some-successors.successors.now in
    let at : slice_get graph i ≡ Some (k, ks) = node_at (slice_get graph i) k ks c.in-Some.ensures c.in-Some-successors.ensures in
    let kept : contains key_cmp c.args.kept.now k ≡ true = sym c.contains.ensures ∙ c.if-not-contains.false in
    c.in_ok-push.ensures.pushed ∙ ap (λ (g : List Node). g ++ (k, c.in_ok-copies.field-0.items) ∷ []) c.requires.before
    ∙ ap (λ (listed : List Descriptor). filter (λ (n : Node). contains key_cmp c.args.kept.now n.0) (take i graph) ++ (k, listed) ∷ []) c.in_ok-copies.ensures
    ∙ sym (filter-kept (λ (n : Node). contains key_cmp c.args.kept.now n.0) graph i (k, ks) at kept)
