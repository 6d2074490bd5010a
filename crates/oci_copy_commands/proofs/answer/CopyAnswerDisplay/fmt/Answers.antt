use Rattle.std.proofs.Common.{◌++◌, ℕ, List, refl, sym, ap, ◌∙◌, arith}
use Rattle.std.proofs.lemmas.List.{append-nil}
use Rattle.std.proofs.lemmas.Grind.{common_steps, put_two, put_three}
use Rattle.oci_copy_commands.specs.Printed.{clean_up_text, copied_lines, report_line, tags_of}
use Rattle.oci_copy_commands.proofs.Printed.{copied_all}
use Rattle.oci_copy_commands.proofs.answer.CopyAnswerDisplay.fmt.Goals as goal

pub loop-tagged-preserved : goal.loop-tagged-preserved
loop-tagged-preserved g c = grind (arith, common_steps)

pub returns-in-Some-clause-writes : goal.returns-in-Some-clause-writes
returns-in-Some-clause-writes g c = λ plain ok.
    let a = c.args.self.now in
    let lines = c.loop-tagged.invariant plain in
    let report = c.in_ok-writeln-2.ensures.writes lines.plain refl in
    rw c.in-Some.is (put_three _ _ _ _ _ _ (report_line a.report) (clean_up_text c.in-Some.removed) _ lines report (c.write.ensures.writes report.plain ok)
    (ap (λ (text : List ℕ). text ++ (report_line a.report ++ clean_up_text c.in-Some.removed)) (copied_all a.copied.items c.loop-tagged.tagged-index (rw c.deref-tagged-items.ensures.value at c.loop-tagged-test.false))))

pub returns-in-None-clause-writes : goal.returns-in-None-clause-writes
returns-in-None-clause-writes g c = λ plain ok.
    let a = c.args.self.now in
    let lines = c.loop-tagged.invariant plain in
    rw c.in-None.is (put_two _ _ _ _ _ (report_line a.report) _ lines (c.in_ok-writeln-2.ensures.writes lines.plain refl)
    (ap (λ (text : List ℕ). text ++ report_line a.report) (copied_all a.copied.items c.loop-tagged.tagged-index (rw c.deref-tagged-items.ensures.value at c.loop-tagged-test.false))
    ∙ ap (λ (text : List ℕ). copied_lines (tags_of a.copied.items) ++ text) (sym (append-nil (report_line a.report)))))
