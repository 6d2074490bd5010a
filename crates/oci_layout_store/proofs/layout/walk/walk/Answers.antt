use Rattle.std.proofs.Common.{◌≡◌, ℕ, zero, suc, ◌≤◌, true, List, [], ◌∷◌, ◌++◌, ◌+◌, length, take, Some, None, refl, sym, ap, subst, ◌∙◌, arith}
use Rattle.std.specs.List.{All, filter, slice_get}
use Rattle.std.specs.Option.{option_copied}
use Rattle.std.proofs.lemmas.List.Elements.{All-nil, All-push, filter-append}
use Rattle.oci_manifest.specs.Descriptor.{Descriptor}
use Rattle.oci_store.specs.Graph.{Node}
use Rattle.oci_store.specs.Keyed.{has_key}
use Rattle.oci_store.specs.Visiting.{with_keys}
use Rattle.oci_layout_store.specs.Opened.{IsGood, held_in, holds, is_damaged, lists}
use Rattle.oci_layout_store.proofs.Refusals.{walk_fault}
use Rattle.oci_layout_store.proofs.Walk.{IsWalking-start, IsWalking-step, IsWalk-end, IsNextVisited-at, held_in-push, held_fresh, take_next}
use Rattle.oci_layout_store.proofs.Stated.{none_stated}
use Rattle.oci_layout_store.proofs.layout.walk.walk.Goals as goal

pub loop-place-init : goal.loop-place-init
loop-place-init g c = λ honest.
    let file = (g.D.Dir.device c.args.dir.now).file in
    let started : c.place_all.new.self ≡ with_keys [] c.args.starts.now = rw c.new-visited.ensures at c.in_ok-place_all.ensures in (
      IsWalking-start c.args.as_is file c.args.starts.now c.place_all.new.self started,
      c.none-held.ensures.graph,
      c.new-damaged.ensures.items,
      All-nil (λ (k : Descriptor). holds c.args.as_is file k ≡ true → IsGood file k),
      none_stated file c.none-held.result.graph c.none-held.result.stated c.none-held.ensures.graph c.none-held.ensures.subjects c.none-held.ensures.undistributed,
    )

pub returns-in-Err-clause-cause : goal.returns-in-Err-clause-cause
returns-in-Err-clause-cause g c =
    let dir = g.D.Dir.device c.args.dir.now in
    let keys = c.loop-place.visited in
    let k = c.in_ok-key.key in
    let at : slice_get keys c.loop-place.place ≡ Some k = sym c.get.ensures ∙ ap option_copied c.in-Some.is ∙ ap Some (sym c.in_ok-key.ensures) in
    walk_fault c.args.as_is dir c.args.starts.now k c.in-Err.fault (λ strict honest. (let w = c.loop-place.invariant honest in
    IsNextVisited-at dir.file c.args.starts.now keys c.loop-place.place k (rw strict at w.0) (rw strict at w.3) at)) c.in-Err.ensures.cause

pub loop-place-preserved : goal.loop-place-preserved
loop-place-preserved g c = λ honest.
    let file = (g.D.Dir.device c.args.dir.now).file in
    let as_is = c.args.as_is in
    let visited = c.loop-place.visited in
    let i = c.loop-place.place in
    let k = c.in_ok-key.key in
    let Good : Descriptor → Type 0 = λ (x : Descriptor). holds as_is file x ≡ true → IsGood file x in
    let w = c.loop-place.invariant honest in
    let at : slice_get visited i ≡ Some k = sym c.get.ensures ∙ ap option_copied c.in-Some.is ∙ ap Some (sym c.in_ok-key.ensures) in
    let grown : c.step.new.visited ≡ with_keys visited (lists as_is file k) = c.in-Ok.ensures.visited honest in
    let fresh = ap (λ (h : List Node). has_key h k) w.1 ∙ held_fresh as_is file c.args.starts.now visited i k w.0 at in
    let taken : take (i + 1) c.step.new.visited ≡ take i visited ++ k ∷ [] = take_next visited c.step.new.visited (lists as_is file k) i k grown at in (
      IsWalking-step as_is file c.args.starts.now visited c.step.new.visited i k w.0 at grown,
      c.in-Ok.ensures.held honest fresh ∙ ap (λ (h : List Node). h ++ held_in as_is file (k ∷ [])) w.1
          ∙ sym (held_in-push as_is file (take i visited) k) ∙ ap (held_in as_is file) (sym taken),
      c.in-Ok.ensures.damaged honest ∙ ap (λ (ks : List Descriptor). ks ++ filter (is_damaged as_is file) (k ∷ [])) w.2
          ∙ sym (filter-append (is_damaged as_is file) (take i visited) (k ∷ [])) ∙ ap (filter (is_damaged as_is file)) (sym taken),
      subst (λ (ks : List Descriptor). All Good ks) (sym taken) (All-push Good (take i visited) k w.3 (c.in-Ok.ensures.good honest)),
      c.in-Ok.ensures.stated honest fresh w.4,
    )

past : {X : Type 0} (xs : List X) (i : ℕ) → length xs ≤ i → slice_get xs i ≡ None
past [] i h = refl
past (x ∷ xs) zero h = absurd (omega (arith, h))
past (x ∷ xs) (suc i) h = past xs i (omega (arith, h))

pub returns-clause-walked : goal.returns-clause-walked
returns-clause-walked g c = λ honest.
    let file = (g.D.Dir.device c.args.dir.now).file in
    let as_is = c.args.as_is in
    let visited = c.loop-place.visited in
    let Good : Descriptor → Type 0 = λ (x : Descriptor). holds as_is file x ≡ true → IsGood file x in
    let w = c.loop-place.invariant honest in
    let none : slice_get visited c.loop-place.place ≡ None = past visited c.loop-place.place (omega (arith, c.loop-place-test.false, c.len.ensures)) in
    let e = IsWalk-end as_is file c.args.starts.now visited c.loop-place.place w.0 none in (
      record { visited = visited; walk = e.0; good = subst (λ (ks : List Descriptor). All Good ks) e.1 w.3; held = w.1 ∙ ap (held_in as_is file) e.1 },
      w.2 ∙ ap (filter (is_damaged as_is file)) e.1,
    )

pub returns-clause-stated : goal.returns-clause-stated
returns-clause-stated g c = λ honest. (c.loop-place.invariant honest).4
