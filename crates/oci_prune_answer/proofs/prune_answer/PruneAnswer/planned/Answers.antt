use Rattle.std.proofs.Common.{◌≡◌, ℕ, List, string_bytes, ap, subst, ◌∙◌, arith}
use Rattle.std.proofs.lemmas.List.{length-map}
use Rattle.std.proofs.lemmas.Result.{IfOk-weaker}
use Rattle.oci_dir.specs.Prunable.{by_name}
use Rattle.oci_prune.specs.Pruned.{flagged}
use Rattle.oci_prune_answer.specs.Pruned.{of_both, ShowsFiles}
use Rattle.oci_prune_answer.proofs.Naming.{flagged-all}
use Rattle.oci_prune_answer.proofs.prune_answer.PruneAnswer.planned.Goals as goal

pub returns-clause-shown : goal.returns-clause-shown
returns-clause-shown c =
    let plan = c.args.plan in
    let files : flagged plan.files.items c.in_ok-vec.field-0.items ≡ plan.files.items =
    ap (flagged plan.files.items) (c.in_ok-vec.ensures.items_if_clones_equal (λ y h. h)) ∙ flagged-all plan.files.items c.len.result (omega (arith, plan.files.ok.0)) in
    let drafts : flagged (by_name plan.drafts.items) c.in_ok-vec-2.field-0.items ≡ by_name plan.drafts.items =
    ap (flagged (by_name plan.drafts.items)) (c.in_ok-vec-2.ensures.items_if_clones_equal (λ y h. h))
    ∙ flagged-all (by_name plan.drafts.items) c.len-2.result (omega (arith, plan.drafts.ok.0, length-map {B = List ℕ × ℕ} plan.drafts.items (λ f. (string_bytes f.0, f.1)))) in
    IfOk-weaker c.of.result _ _ (λ answer h. record {
      keys = h.saved;
      files = subst (λ fs. ShowsFiles fs answer) (ap (λ fs. of_both fs (flagged (by_name plan.drafts.items) c.in_ok-vec-2.field-0.items)) files ∙ ap (of_both plan.files.items) drafts) h.files;
    }) c.of.ensures.shown
