use Rattle.std.proofs.Common.{◌++◌, ℕ, List, ap}
use Rattle.std.proofs.lemmas.Grind.{put_two}
use Rattle.oci_prune_answer.specs.Pruned.{prune_text}
use Rattle.oci_prune_commands.proofs.Naming.{untagged_all}
use Rattle.oci_prune_commands.proofs.answer.FullAnswerDisplay.fmt.Goals as goal

pub returns-clause-writes : goal.returns-clause-writes
returns-clause-writes g c = λ plain ok.
    let a = c.args.self.now in
    let lines = c.loop-tag.invariant plain in
    put_two _ _ _ _ _ (prune_text a.pruned) _ lines (c.write.ensures.writes lines.plain ok)
    (ap (λ (text : List ℕ). text ++ prune_text a.pruned) (untagged_all a.untagged.items c.loop-tag.tag-index (rw c.deref-tag-items.ensures.value at c.loop-tag-test.false)))
