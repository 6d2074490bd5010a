use Rattle.std.proofs.Common.{◌++◌, ℕ, List, refl, sym, ap, ◌∙◌, arith}
use Rattle.std.specs.List.{flat_map}
use Rattle.std.proofs.lemmas.List.{append-nil, take_all}
use Rattle.std.proofs.lemmas.Grind.{common_steps, put_two, put_three}
use Rattle.oci_copy_commands.specs.Printed.{clean_up_text, plan_counts, planned_line}
use Rattle.oci_copy_commands.proofs.dry_run.PlanAnswerDisplay.fmt.Goals as goal

pub loop-key-preserved : goal.loop-key-preserved
loop-key-preserved g c = grind (arith, common_steps)

pub returns-in-Some-clause-writes : goal.returns-in-Some-clause-writes
returns-in-Some-clause-writes g c = λ plain ok.
    let a = c.args.self.now in
    let lines = c.loop-key.invariant plain in
    let counts = c.in_ok-fmt_counts.ensures lines.plain refl in
    rw c.in-Some.is (put_three _ _ _ _ _ _ (plan_counts a) (clean_up_text c.in-Some.prune) _ lines counts (c.write.ensures.writes counts.plain ok)
    (ap (λ (text : List ℕ). text ++ (plan_counts a ++ clean_up_text c.in-Some.prune)) (ap (flat_map planned_line) (take_all c.loop-key.key-index a.blobs.items (rw c.deref-key-items.ensures.value at c.loop-key-test.false)))))

pub returns-in-None-clause-writes : goal.returns-in-None-clause-writes
returns-in-None-clause-writes g c = λ plain ok.
    let a = c.args.self.now in
    let lines = c.loop-key.invariant plain in
    rw c.in-None.is (put_two _ _ _ _ _ (plan_counts a) _ lines (c.in_ok-fmt_counts.ensures lines.plain refl)
    (ap (λ (text : List ℕ). text ++ plan_counts a) (ap (flat_map planned_line) (take_all c.loop-key.key-index a.blobs.items (rw c.deref-key-items.ensures.value at c.loop-key-test.false)))
    ∙ ap (λ (text : List ℕ). flat_map planned_line a.blobs.items ++ text) (sym (append-nil (plan_counts a)))))
