use Rattle.std.proofs.Common.{◌≡◌, ◌<◌, ◌++◌, ◌∷◌, [], List, ℕ, length, subst, arith, rules}
use Rattle.std.proofs.lemmas.List.{take_all}
use Rattle.std.specs.Borrow.{Bor}
use Rattle.ocicp.specs.Run.{AreSourcesAt}
use Rattle.ocicp.proofs.Done.{sources_taken}
use Rattle.ocicp.proofs.place.open_sources.Goals as goal

pub loop-path-preserved : goal.loop-path-preserved
loop-path-preserved g c =
    let paths = c.args.words.now.sources.items in
    let i = c.loop-path.path-index in
    let within = subst (λ (xs : List (Bor (List ℕ))). i < length xs) c.deref-path-items.ensures.value c.loop-path-test.true in
    let at = rw c.deref-path-items.ensures.value at c.in_ok-open_source.ensures in
    let more : c.push.new.self.items ≡ c.loop-path.sources.items ++ c.in_ok-open_source.field-0 ∷ [] = search rules in
    sources_taken paths i _ _ _ _ within c.loop-path.invariant at more

pub returns : goal.returns
returns g c =
    let paths = c.args.words.now.sources.items in
    subst (λ ps. AreSourcesAt ps c.loop-path.sources.items) (take_all c.loop-path.path-index paths (omega (arith, c.loop-path-test.false))) c.loop-path.invariant
