use Rattle.std.proofs.Common.{subst, arith}
use Rattle.std.specs.List.{All}
use Rattle.std.proofs.lemmas.List.{take_all}
use Rattle.oci_layout_copy.specs.Goal.{IsReadableIfStays}
use Rattle.oci_entries.specs.Pattern.{texts_of}
use Rattle.oci_selection.proofs.Selections.{all_more}
use Rattle.oci_layout_copy.proofs.kept.check_staying.Goals as goal

pub loop-place-preserved : goal.loop-place-preserved
loop-place-preserved c =
    all_more (IsReadableIfStays (texts_of c.args.patterns.now) c.args.gone.now c.args.selected.now) c.args.entries.now c.loop-place.place c.index-entries-place.result c.loop-place-test.true c.index-entries-place.is c.in_ok-check_entry.ensures c.loop-place.invariant

pub returns : goal.returns
returns c =
    subst (All (IsReadableIfStays (texts_of c.args.patterns.now) c.args.gone.now c.args.selected.now)) (take_all c.loop-place.place c.args.entries.now (omega (arith, c.loop-place-test.false))) c.loop-place.invariant
