use Rattle.std.proofs.Common.{◌≡◌, List, inr, ap, subst, ◌∙◌}
use Rattle.oci_manifest.specs.Descriptor.{Descriptor}
use Rattle.oci_store.specs.Tags.{Tags, by_bytes}
use Rattle.oci_layout_copy.specs.PlannedMirror.{HasKeys}
use Rattle.oci_selection.specs.Selected.{other_tags}
use Rattle.oci_layout_copy.proofs.planned.plan_clean_up.Goals as goal

pub returns-in-Ok-clause-planned : goal.returns-in-Ok-clause-planned
returns-in-Ok-clause-planned g c =
    let old = c.args.destination.now.tags in
    let all : by_bytes c.deref.result.now ≡ old = ap by_bytes c.deref.ensures.value ∙ c.in_ok-tags.ensures.exact in
    record {
      untagged = c.in_ok-untagged.ensures ∙ ap (λ (ts : Tags). other_tags ts (by_bytes c.tags-2.result.now)) all ∙ ap (other_tags old) c.tags-2.ensures.tags;
      arriving = c.in_ok-arriving.arriving;
      arrive = subst (λ (ks : List Descriptor). HasKeys c.in_ok-arriving.arriving ks) c.keys.ensures c.in_ok-arriving.ensures;
      pruned = rw c.roots-roots.ensures at c.in-Ok.ensures.planned;
    }

pub returns-in-Err-clause-refused : goal.returns-in-Err-clause-refused
returns-in-Err-clause-refused g c =
    inr (
      c.in_ok-arriving.arriving,
      c.in-Err.fault,
      subst (λ (ks : List Descriptor). HasKeys c.in_ok-arriving.arriving ks) c.keys.ensures c.in_ok-arriving.ensures,
      c.fault_of.ensures,
      rw c.roots-roots.ensures at c.in-Err.ensures.cause,
    )
