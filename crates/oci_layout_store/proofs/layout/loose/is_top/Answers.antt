use Rattle.std.proofs.Common.{◌≡◌, ℕ, ◌==◌, List, [], length, inl, inr, sym, ap, ◌∙◌, arith}
use Rattle.std.specs.Vec.{vec_len}
use Rattle.std.proofs.lemmas.Bool.{eqb-true}
use Rattle.oci_manifest.specs.Descriptor.{Descriptor}
use Rattle.oci_manifest.specs.MediaTypes.{kind_of}
use Rattle.oci_manifest.specs.declared.kind.Kind.TheVariants.{Leaf}
use Rattle.oci_layout_store.proofs.Loose.{top_where_none, none_where_top, empty_list}
use Rattle.oci_layout_store.proofs.layout.loose.is_top.Goals as goal

pub returns-in_ok-predecessors-in-Leaf : goal.returns-in_ok-predecessors-in-Leaf
returns-in_ok-predecessors-in-Leaf c =
    let graph = c.args.graph.now in
    let key = c.args.key.now in
    let keys = c.in_ok-predecessors-in-Leaf.field-0 in
    let before = c.in_ok-predecessors-in-Leaf.ensures in
    let leaf : kind_of key.media_type ≡ Leaf = ap kind_of (sym c.media_type.ensures) ∙ sym c.of.ensures ∙ c.in-Leaf.is in (
      λ t. top_where_none graph key keys.items before (empty_list keys.items (let e = eqb-true (vec_len keys) 0 (sym c.is_empty.ensures ∙ t) in omega (arith, e, keys.ok.0))),
      λ top. elim top [
        | inl manifest ↦ absurd (manifest leaf)
        | inr nobody ↦
            let none : keys.items ≡ [] = none_where_top graph key keys.items before nobody in
            let e : vec_len keys ≡ 0 = let l : length keys.items ≡ 0 = ap (λ (ks : List Descriptor). length ks) none in omega (arith, l, keys.ok.0) in
            c.is_empty.ensures ∙ ap (λ (n : ℕ). n == 0) e
      ],
    )
