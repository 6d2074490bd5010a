use Rattle.std.proofs.Common.{subst, arith}
use Rattle.std.specs.List.{All}
use Rattle.std.proofs.lemmas.List.{take_all}
use Rattle.oci_entries.specs.Pattern.{texts_of}
use Rattle.oci_selection.specs.Selected.{IsNamedHeld}
use Rattle.oci_selection.proofs.Selections.{all_more}
use Rattle.oci_selection.proofs.whole.check_entries.Goals as goal

pub loop-place-preserved : goal.loop-place-preserved
loop-place-preserved g c =
    all_more (IsNamedHeld c.args.layout.now.graph (texts_of c.args.patterns.now)) c.args.entries.now c.loop-place.place c.index-entries-place.result c.loop-place-test.true c.index-entries-place.is c.in_ok-check_entry.ensures.held c.loop-place.invariant

pub returns-clause-held : goal.returns-clause-held
returns-clause-held g c =
    subst (All (IsNamedHeld c.args.layout.now.graph (texts_of c.args.patterns.now))) (take_all c.loop-place.place c.args.entries.now (omega (arith, c.loop-place-test.false))) c.loop-place.invariant
