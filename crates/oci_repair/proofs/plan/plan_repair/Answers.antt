use Rattle.std.proofs.Common.{◌≡◌, ◌∷◌, [], ◌++◌, ◌+◌, ◌≤◌, List, ℕ, Some, None, take, length, sym, ap, subst, ◌∙◌, arith}
use Rattle.std.specs.Prelude.{flat_map}
use Rattle.std.specs.Option.{option_copied}
use Rattle.std.specs.List.{slice_get}
use Rattle.std.proofs.lemmas.Grind.{flat_map-append}
use Rattle.oci_layout_store.specs.Entries.{entry_keys, said}
use Rattle.oci_layout_store.proofs.Walk.{take_next}
use Rattle.oci_manifest.specs.Descriptor.{Descriptor}
use Rattle.oci_store.specs.Visiting.{with_keys}
use Rattle.oci_store.proofs.Membership.{past_from_none}
use Rattle.oci_repair.specs.Planned.{links_of, mend_at, missing_at, place_of}
use Rattle.oci_repair.specs.Sources.{files_in}
use Rattle.oci_repair.specs.Whole.{lists_in, place_in}
use Rattle.oci_repair.proofs.Known.{Knows-opened}
use Rattle.oci_repair.proofs.Places.{found_is, more_at}
use Rattle.oci_repair.proofs.Walk.{IsWalking-start, IsWalking-step, walked}
use Rattle.oci_repair.proofs.plan.plan_repair.Goals as goal

pub loop-plan-init : goal.loop-plan-init
loop-plan-init g c = λ honest sources opened are.
    let layout = c.args.layout.now in
    let files = (g.D.Dir.device layout.dir).file ∷ files_in g.F.Dir.device g.A.Dir.device c.args.sources.now in
    let starts = entry_keys (said layout.opened.content).entries in
    let started : c.place_all.new.self ≡ with_keys [] starts = rw (c.new-visited.ensures, c.deref.ensures.value, c.in_ok-entry_keys.ensures) at c.in_ok-place_all.ensures in
    (IsWalking-start (lists_in files) starts c.place_all.new.self started, c.new.ensures.items, c.new-2.ensures.items)

pub unreachable-requires : goal.unreachable-requires
unreachable-requires g c =
    let none : slice_get c.loop-plan.visited c.loop-plan.plan.reached ≡ None = sym c.get.ensures ∙ ap option_copied c.in_default.is in
    let past : length c.loop-plan.visited ≤ c.loop-plan.plan.reached = past_from_none c.loop-plan.visited c.loop-plan.plan.reached none in
    omega (arith, past, c.loop-plan-test.true, c.len.ensures)

pub loop-plan-preserved : goal.loop-plan-preserved
loop-plan-preserved g c = λ honest sources opened are.
    let layout = c.args.layout.now in
    let file = (g.D.Dir.device layout.dir).file in
    let files = file ∷ files_in g.F.Dir.device g.A.Dir.device c.args.sources.now in
    let starts = entry_keys (said layout.opened.content).entries in
    let visited = c.loop-plan.visited in
    let i = c.loop-plan.plan.reached in
    let k = c.in_ok-key.key in
    let found = c.in_ok-found.found in
    let w = c.loop-plan.invariant honest sources opened are in
    let at : slice_get visited i ≡ Some k = sym c.get.ensures ∙ ap option_copied c.in-Some.is ∙ ap Some (sym c.in_ok-key.ensures) in
    let knows = Knows-opened file layout.graph layout.tags layout.opened c.args.corrupt.now _ opened are c.in_ok-corrupt.ensures in
    let is = found_is files k found (c.in_ok-found.ensures.found honest sources knows) in
    let grown : c.note.new.visited ≡ with_keys visited (lists_in files k) = c.in_ok-note.ensures.visited ∙ ap (with_keys visited) is.1 in
    let taken : take (i + 1) c.note.new.visited ≡ take i visited ++ k ∷ [] = take_next visited c.note.new.visited (lists_in files k) i k grown at in
    rw c.in_ok-note.ensures.reached (
      IsWalking-step (lists_in files) starts visited c.note.new.visited i k w.0 at grown,
      c.in_ok-note.ensures.mends ∙ more_at (λ x. mend_at x (place_in files x)) visited c.note.new.visited i k taken w.1 (ap (mend_at k) is.0),
      c.in_ok-note.ensures.missing ∙ more_at (λ x. missing_at x (place_in files x)) visited c.note.new.visited i k taken w.2 (ap (missing_at k) is.0),
    )

pub returns-clause-planned : goal.returns-clause-planned
returns-clause-planned g c = λ honest sources opened are.
    let layout = c.args.layout.now in
    let files = (g.D.Dir.device layout.dir).file ∷ files_in g.F.Dir.device g.A.Dir.device c.args.sources.now in
    let starts = entry_keys (said layout.opened.content).entries in
    let visited = c.loop-plan.visited in
    let i = c.loop-plan.plan.reached in
    let w = c.loop-plan.invariant honest sources opened are in
    let end : length visited ≤ i = omega (arith, c.loop-plan-test.false, c.len.ensures) in
    let all = walked (lists_in files) starts visited i w.0 end in
    record {
      keys = visited;
      reached = record { visiting = all.0; all = all.1 };
      mends = w.1 ∙ ap (flat_map (λ k. mend_at k (place_in files k))) all.2;
      missing = w.2 ∙ ap (flat_map (λ k. missing_at k (place_in files k))) all.2;
      count = all.3;
    }
