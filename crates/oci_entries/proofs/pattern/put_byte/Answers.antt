use Rattle.std.proofs.Common.{◌≡◌, ℕ, ◌+◌, length, refl, subst, arith}
use Rattle.oci_entries.specs.Pattern.{after_byte}
use Rattle.oci_entries.proofs.PatternRows.{byte_end, byte_next, change_front, front_all, front_start, IsChangedFrom}
use Rattle.oci_entries.proofs.pattern.put_byte.Goals as goal

pub loop-place-init : goal.loop-place-init
loop-place-init c test is = front_start (after_byte c.args.byte test) test c.args.text.now c.args.row.now 0 refl is

pub loop-place-preserved : goal.loop-place-preserved
loop-place-preserved c test is =
    let place = c.loop-place.place in
    let text = c.args.text.now in
    let before = c.loop-place.invariant test is in
    change_front (after_byte c.args.byte test) test text c.loop-place.row place _ (omega (arith, c.loop-place-test.true)) (byte_next test text c.loop-place.row place c.args.byte c.loop-place-test.true before) before

pub returns : goal.returns
returns c test is =
    let text = c.args.text.now in
    let new = after_byte c.args.byte test in
    let all : c.loop-place.place ≡ length text = omega (arith, c.loop-place-test.false, c.loop-place.auto.place-end) in
    let before = subst (λ (n : ℕ). IsChangedFrom n new test text c.loop-place.row) all (c.loop-place.invariant test is) in
    let changed = change_front new test text c.loop-place.row (length text) _ (omega arith) (byte_end test text c.loop-place.row c.args.byte (length text) refl) before in
    front_all new test text _ (length text + 1) (omega arith) changed
