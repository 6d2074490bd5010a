use Rattle.std.proofs.Common.{◌≤◌, inl, inr, refl, sym, subst, ◌∙◌}
use Rattle.std.proofs.lemmas.Result.{IfErr-weaker, IfOk-weaker}
use Rattle.serde_json.specs.Data.{no_items, depth}
use Rattle.serde_json.specs.View.{view, items_view}
use Rattle.oci_reference.specs.Platform.{manifests_in}
use Rattle.oci_reference.specs.declared.platform.Picked.{Picked}
use Rattle.oci_reference.proofs.Stated.{listed_by-other, picked-is, shallow-first, shallow-manifests}
use Rattle.oci_reference.proofs.platform.pick_platform.Goals as goal

pub returns-in-Some-clause-refused : goal.returns-in-Some-clause-refused
returns-in-Some-clause-refused g c =
    let p = c.in-Some.picked in
    IfErr-weaker c.if_held.result _ _ (λ e lost. inr (inr (inr (
      p.key,
      view p.descriptor,
      (λ honest. picked-is c.args.platform.now (items_view c.manifests_in-listed.result.now) _ c.in_ok-picked.field-0 p c.in_ok-picked.ensures c.in-Some.is (c.manifests_in-listed.ensures ∙ c.in_ok-index.ensures.listed honest)),
      lost,
    )))) c.if_held.ensures.refused

pub returns-then-not-is_index-clause-refused : goal.returns-then-not-is_index-clause-refused
returns-then-not-is_index-clause-refused g c =
    let file = (g.D.Dir.device c.args.layout.now.dir).file in
    let other = listed_by-other file c.args.layout.now.graph c.args.key.now (sym c.is_index.ensures ∙ c.if-not-is_index.true) in
    inr (inr (inl (no_items, (λ honest. sym other), refl, c.in_ok-no_platform.ensures)))

pub returns-in-Some-clause-shallow : goal.returns-in-Some-clause-shallow
returns-in-Some-clause-shallow g c =
    let p = c.in-Some.picked in
    let index = view c.in_ok-index.index in
    let first = picked-is c.args.platform.now (items_view c.manifests_in-listed.result.now) (manifests_in index) c.in_ok-picked.field-0 p c.in_ok-picked.ensures c.in-Some.is c.manifests_in-listed.ensures in
    let shallow = shallow-first c.args.platform.now (manifests_in index) p.key (view p.descriptor) 125 (shallow-manifests index c.in_ok-index.ensures.shallow) first in
    IfOk-weaker c.if_held.result _ _ (λ held same. subst (λ (q : Picked). depth (view q.descriptor) ≤ 125) (sym same) shallow) c.if_held.ensures.same
