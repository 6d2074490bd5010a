use Rattle.std.proofs.Common.{◌≡◌, ℕ, ◌+◌, ◌-◌, ◌≤◌, length, subst, arith}
use Rattle.oci_entries.specs.Pattern.{some_end}
use Rattle.oci_entries.proofs.PatternRows.{any_next, any_start, change, changed_all, IsChangedFrom}
use Rattle.oci_entries.proofs.pattern.put_any_text.Goals as goal

pub loop-place-init : goal.loop-place-init
loop-place-init c test text is = (omega (arith, is.len), any_start test text c.args.row.now (length c.args.row.now - 1) (omega (arith, is.len)) is)

pub loop-place-preserved : goal.loop-place-preserved
loop-place-preserved c test text is =
    let row = c.loop-place.row in
    let before = (c.loop-place.invariant test text is).1 in
    let q = c.loop-place.place - 1 in
    let p = q - 1 in
    let next : q ≡ p + 1 = omega (arith, c.loop-place-test.true) in
    let within : q ≤ length text = omega (arith, c.loop-place.auto.place, is.len) in
    (omega (arith, c.loop-place-test.true), change test (some_end test) text row p _ (omega (arith, next, within)) (any_next test text row p q next within before) (subst (λ (n : ℕ). IsChangedFrom n test (some_end test) text row) next before))

pub returns : goal.returns
returns c test text is = changed_all test (some_end test) text c.loop-place.row (c.loop-place.place - 1) (omega (arith, c.loop-place-test.false)) (c.loop-place.invariant test text is).1
