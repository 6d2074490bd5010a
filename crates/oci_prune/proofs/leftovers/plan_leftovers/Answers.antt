use Rattle.std.proofs.Common.{inl, inr, List, sym, subst}
use Rattle.std.specs.Prelude.{Contains}
use Rattle.oci_manifest.specs.Descriptor.{Descriptor}
use Rattle.oci_layout_store.proofs.Loose.{HasKeys-nil}
use Rattle.oci_prune.proofs.Elements.{no_element}
use Rattle.oci_prune.proofs.leftovers.plan_leftovers.Goals as goal

pub returns-clause-planned : goal.returns-clause-planned
returns-clause-planned g c = record {
  keys = record {
    kept = λ k. (
      λ h. elim ((c.in_ok-add_keys.ensures k).0 h) [
        | inl was ↦ absurd (no_element k ((HasKeys-nil c.new-kept.result c.new-kept.ensures.empty k).0 was))
        | inr listed ↦ (c.in_ok-held_keys.ensures.each k).0 (subst (λ (ks : List Descriptor). Contains ks k) c.deref.ensures.value listed)
      ],
      λ held. (c.in_ok-add_keys.ensures k).1 (inr (subst (λ (ks : List Descriptor). Contains ks k) (sym c.deref.ensures.value) ((c.in_ok-held_keys.ensures.each k).1 held))),
    );
    removed = c.new.ensures.items;
  };
  files = c.new-2.ensures.items;
  drafts = c.in_ok-drafts.ensures.found;
}
