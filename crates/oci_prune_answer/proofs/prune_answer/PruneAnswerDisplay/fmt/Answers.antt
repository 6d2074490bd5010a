use Rattle.std.proofs.Common.{ap, refl, ◌++◌, List}
use Rattle.std.specs.Prelude.{flat_map}
use Rattle.std.proofs.lemmas.Grind.{put_four}
use Rattle.std.proofs.lemmas.List.{take_all}
use Rattle.oci_manifest.specs.Descriptor.{Descriptor}
use Rattle.oci_prune_answer.specs.Pruned.{counts_text, file_lines, left_text, removed_line}
use Rattle.oci_prune_answer.proofs.prune_answer.PruneAnswerDisplay.fmt.Goals as goal

pub returns-clause-writes : goal.returns-clause-writes
returns-clause-writes g c plain ok =
    let answer = c.args.self.now in
    let keys = c.loop-key.invariant plain in
    let files = rw c.deref.ensures.value at (c.in_ok-fmt_files.ensures keys.plain refl) in
    let counts = c.in_ok-fmt_counts.ensures files.plain refl in
    let left = c.write.ensures.writes counts.plain ok in
    let all = take_all c.loop-key.key-index answer.removed.items (rw c.deref-key-items.ensures.value at c.loop-key-test.false) in
    put_four g.W.Write.write_str_gives _ _ _ _ _ _ _ _ _ _ keys files counts left
    (ap (λ (ks : List Descriptor). flat_map removed_line ks ++ (file_lines answer.files.items ++ (counts_text answer ++ left_text answer.untagged_left))) all)
