use Rattle.std.proofs.Common.{drop}
use Rattle.oci_entries.proofs.PatternRows.{before_place}
use Rattle.oci_entries.proofs.pattern.matches.Goals as goal

pub loop-place-preserved : goal.loop-place-preserved
loop-place-preserved c =
    let pattern = c.as_bytes-pattern.result.now in
    let place = c.loop-place.place in
    before_place pattern c.as_bytes-text.result.now c.put_before.new.row place c.loop-place-test.true c.loop-place.auto.place 0 (c.put_before.ensures (drop place pattern) c.loop-place.invariant)
