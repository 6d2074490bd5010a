use Rattle.std.proofs.Common.{◌≡◌, ◌∙◌, ℕ, ◌+◌, ◌-◌, ◌<◌, length, drop, refl, ap, subst, arith}
use Rattle.oci_entries.specs.Pattern.{after_character, after_continuation}
use Rattle.oci_entries.proofs.PatternRows.{after_next, change, changed_all, character_end, character_next, nothing_after, unchanged, IsChangedFrom}
use Rattle.oci_entries.proofs.pattern.put_character.Goals as goal

pub loop-place-init : goal.loop-place-init
loop-place-init c test is =
    let text = c.args.text.now in
    let row = c.args.row.now in
    (change test (after_character test) text row (length text) _ (omega arith) (character_end test text row (length text) refl) (unchanged test (after_character test) text row (length text + 1) (omega arith) is), is.at (length text) (omega arith) ∙ ap test (nothing_after text (length text) (omega arith)))

pub loop-place-preserved : goal.loop-place-preserved
loop-place-preserved c test is =
    let text = c.args.text.now in
    let row = c.loop-place.row in
    let p = c.loop-place.place - 1 in
    let before = c.loop-place.invariant test is in
    let next : c.loop-place.place ≡ p + 1 = omega (arith, c.loop-place-test.true) in
    let within : p < length text = omega (arith, c.loop-place.auto.place, c.loop-place-test.true) in
    let changed = subst (λ (n : ℕ). IsChangedFrom n test (after_character test) text row) next before.0 in
    let after = subst (λ (n : ℕ). c.loop-place.after ≡ test (after_continuation (drop n text))) next before.1 in (
      change test (after_character test) text row p _ (omega (arith, within)) (c.shift-after.ensures.put ∙ character_next test text row p c.loop-place.after within after) changed,
      after_next test text row p _ c.loop-place.after c.shift-after.result within (changed.before p (omega arith) (omega (arith, within))) after c.shift-after.ensures.before,
    )

pub returns : goal.returns
returns c test is = changed_all test (after_character test) c.args.text.now c.loop-place.row c.loop-place.place (omega (arith, c.loop-place-test.false)) (c.loop-place.invariant test is).0
