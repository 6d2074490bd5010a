use Rattle.std.proofs.Common.{◌∙◌, ◌||◌, ◌+◌, ℕ, Bool, List, drop, sym, ap}
use Rattle.std.specs.List.{list_any}
use Rattle.std.proofs.Math.ListN.{drop_of_length-le}
use Rattle.oci_entries.specs.Pattern.{matches, texts_of}
use Rattle.oci_entries.proofs.PatternRows.{next_pattern, none_passes, one_passes}
use Rattle.oci_entries.proofs.pattern.matches_one.Goals as goal

pub loop-pattern-preserved : goal.loop-pattern-preserved
loop-pattern-preserved c =
    let text = c.args.text.now in
    let ps = c.args.patterns.now in
    let i = c.loop-pattern.pattern-index in
    let next = next_pattern text ps i _ c.in_ok-matches.field-0 c.loop-pattern-test.true c.in_ok-matches.ensures in
    ap (λ (b : Bool). b || list_any (λ (p : List ℕ). matches p text) (texts_of (drop (i + 1) ps))) (sym c.if-branch.false) ∙ sym next ∙ c.loop-pattern.invariant

pub returns-then-branch : goal.returns-then-branch
returns-then-branch c =
    let text = c.args.text.now in
    let ps = c.args.patterns.now in
    let i = c.loop-pattern.pattern-index in
    let next = next_pattern text ps i _ c.in_ok-matches.field-0 c.loop-pattern-test.true c.in_ok-matches.ensures in
    sym (one_passes text (texts_of ps) (sym c.loop-pattern.invariant ∙ next ∙ ap (λ (b : Bool). b || list_any (λ (p : List ℕ). matches p text) (texts_of (drop (i + 1) ps))) c.if-branch.true))

pub returns : goal.returns
returns c =
    let text = c.args.text.now in
    let ps = c.args.patterns.now in
    let i = c.loop-pattern.pattern-index in
    c.is_empty.ensures ∙ none_passes text ps (sym c.loop-pattern.invariant ∙ ap (λ qs. list_any (λ (p : List ℕ). matches p text) (texts_of qs)) (drop_of_length-le ps c.loop-pattern-test.false))
