use Rattle.std.proofs.Common.{◌∙◌, ◌++◌, [], ◌∷◌, Bool, true, false, List, ap, arith}
use Rattle.oci_entries.proofs.PatternRows.{more_false, row_at_end}
use Rattle.oci_entries.proofs.pattern.end_row.Goals as goal

pub loop-preserved : goal.loop-preserved
loop-preserved c = c.in_ok-push.ensures.items ∙ ap (λ (bs : List Bool). bs ++ false ∷ []) c.loop.invariant ∙ more_false c.loop.index

pub returns : goal.returns
returns c =
    row_at_end c.args.text.now c.loop.index c.push-2.new.self.items (omega (arith, c.loop-test.false, c.loop.auto.index-end)) (c.in_ok-push-2.ensures.items ∙ ap (λ (bs : List Bool). bs ++ true ∷ []) c.loop.invariant)
