use Rattle.std.proofs.Common.{◌≡◌, ℕ, List, [], Some, None, take, sym, ap, subst, ◌∙◌}
use Rattle.std.specs.Global.{Vec}
use Rattle.std.specs.List.{filter, slice_get}
use Rattle.std.proofs.lemmas.Result.{err_from_is_err_and}
use Rattle.oci_manifest.specs.Descriptor.{Descriptor}
use Rattle.oci_store.specs.Visiting.{with_keys}
use Rattle.oci_plan.specs.Visiting.{is_fresh}
use Rattle.oci_plan.specs.Walk.{IsWalk, IsGathered, visits_of, noted}
use Rattle.oci_store.proofs.Membership.{past_from_none}
use Rattle.oci_plan.proofs.Walks.{visits_start, visits_more, walk_start, walk_step, walk_end, place_passes, spared_of, place_met, item_first, roots_first, successors_first, successors_met}
use Rattle.oci_plan.proofs.Mets.{names_key, unnamed_true, roots_met}
use Rattle.oci_plan.proofs.gathering.walk.visit.Goals as goal

pub returns-in_err-number_fresh-clause-refused : goal.returns-in_err-number_fresh-clause-refused
returns-in_err-number_fresh-clause-refused g c =
    let p = err_from_is_err_and c.from_residual.result c.from_residual.ensures.1 in
    let fault = rw c.new-keys.ensures at c.in_err-number_fresh.ensures.refused in
    let met = roots_met c.args.existing (g.A.Store.state c.args.source.now).entries (g.D.Store.state c.args.destination.now).nodes c.args.roots.now c.in_err-number_fresh.field-0.0 fault in
    rw (p.1, p.2) (unnamed_true c.args.existing (g.A.Store.state c.args.source.now) (g.D.Store.state c.args.destination.now) c.args.roots.now c.args.limit _ c.in_err-number_fresh.field-0.0 fault met (λ _. roots_first (g.A.Store.state c.args.source.now).is_honest c.args.existing (g.A.Store.state c.args.source.now).entries (g.D.Store.state c.args.destination.now).nodes c.args.roots.now c.args.limit c.in_err-number_fresh.field-0.0 fault))

pub loop-key-init : goal.loop-key-init
loop-key-init g c =
    let is_keys : c.number_fresh.new.keys ≡ with_keys [] (filter (is_fresh (g.D.Store.state c.args.destination.now).nodes) c.args.roots.now) =
    c.in_ok-number_fresh.ensures.keys ∙ ap (λ (ks : List Descriptor). with_keys ks (filter (is_fresh (g.D.Store.state c.args.destination.now).nodes) c.args.roots.now)) c.new-keys.ensures in
    let is_all : c.note_met.new.all ≡ noted c.args.existing [] c.args.roots.now = c.in_ok-note_met.ensures ∙ ap (λ (ks : List Descriptor). noted c.args.existing ks c.args.roots.now) c.new-all.ensures in
    let visits = visits_start c.args.existing (g.D.Store.state c.args.destination.now).nodes c.number_fresh.new.keys c.note_met.new.all c.args.roots.now is_keys is_all in
    subst (λ (lists : List (Vec ℕ)). IsWalk (g.A.Store.state c.args.source.now).is_honest c.args.existing (g.A.Store.state c.args.source.now).entries (g.D.Store.state c.args.destination.now).nodes c.args.roots.now c.args.limit (visits_of c.args.existing c.number_fresh.new.keys c.note_met.new.all) c.number_fresh.new.keys [] lists) (sym c.new-lists.ensures.items)
    (walk_start (g.A.Store.state c.args.source.now).is_honest c.args.existing (g.A.Store.state c.args.source.now).entries (g.D.Store.state c.args.destination.now).nodes c.args.roots.now c.args.limit (visits_of c.args.existing c.number_fresh.new.keys c.note_met.new.all) c.number_fresh.new.keys visits is_keys c.in_ok-number_fresh.ensures.few)

pub returns-in_err-successors-clause-refused : goal.returns-in_err-successors-clause-refused
returns-in_err-successors-clause-refused g c =
    let p = err_from_is_err_and c.from_residual-in_err-successors.result c.from_residual-in_err-successors.ensures.1 in
    let at : slice_get (visits_of c.args.existing c.loop-key.keys c.loop-key.all) c.loop-key.place ≡ Some c.in-Some.key.now = sym c.in-Some.ensures.value in
    let pass = place_passes (g.A.Store.state c.args.source.now).is_honest c.args.existing (g.A.Store.state c.args.source.now).entries (g.D.Store.state c.args.destination.now).nodes c.args.roots.now c.args.limit (visits_of c.args.existing c.loop-key.keys c.loop-key.all) c.loop-key.keys (take c.loop-key.place (visits_of c.args.existing c.loop-key.keys c.loop-key.all)) c.loop-key.lists.items c.loop-key.place c.in-Some.key.now c.loop-key.invariant at in
    let was = place_met (g.A.Store.state c.args.source.now).is_honest c.args.existing (g.A.Store.state c.args.source.now).entries (g.D.Store.state c.args.destination.now).nodes c.args.roots.now c.args.limit (visits_of c.args.existing c.loop-key.keys c.loop-key.all) c.loop-key.keys (take c.loop-key.place (visits_of c.args.existing c.loop-key.keys c.loop-key.all)) c.loop-key.lists.items c.loop-key.place c.in-Some.key.now c.loop-key.invariant at in
    let asked = rw c.is_held-held.ensures at c.in_err-successors.ensures.asked in
    let of_key = c.in_err-successors.ensures.lists.named in
    rw (p.1, p.2) (record {
      cause = c.in_err-successors.ensures.lists.cause;
      spared = spared_of c.args.existing (g.A.Store.state c.args.source.now).entries (g.D.Store.state c.args.destination.now).nodes c.in-Some.key.now c.in_err-successors.field-0.0 pass asked of_key;
      named = names_key _ _ _ c.in-Some.key.now c.in_err-successors.field-0.0 pass of_key;
      met = names_key _ _ _ c.in-Some.key.now c.in_err-successors.field-0.0 was of_key;
      first = item_first (g.A.Store.state c.args.source.now).is_honest c.args.existing (g.A.Store.state c.args.source.now).entries (g.D.Store.state c.args.destination.now).nodes c.args.roots.now c.args.limit (visits_of c.args.existing c.loop-key.keys c.loop-key.all) c.loop-key.keys c.loop-key.lists.items c.loop-key.place c.in-Some.key.now c.in_err-successors.field-0.0 c.loop-key.invariant at of_key;
    })

pub returns-in_err-numbers-clause-refused : goal.returns-in_err-numbers-clause-refused
returns-in_err-numbers-clause-refused g c =
    let p = err_from_is_err_and c.from_residual-in_err-numbers.result c.from_residual-in_err-numbers.ensures.1 in
    let at : slice_get (visits_of c.args.existing c.loop-key.keys c.loop-key.all) c.loop-key.place ≡ Some c.in-Some.key.now = sym c.in-Some.ensures.value in
    let fault = rw c.deref.ensures.value at c.in_err-numbers.ensures.refused in
    let may = rw c.is_held-held.ensures at c.in_ok-successors.ensures.passed in
    let met = successors_met (g.A.Store.state c.args.source.now).is_honest c.args.existing (g.A.Store.state c.args.source.now).entries (g.D.Store.state c.args.destination.now).nodes c.args.roots.now c.args.limit (visits_of c.args.existing c.loop-key.keys c.loop-key.all) c.loop-key.keys (take c.loop-key.place (visits_of c.args.existing c.loop-key.keys c.loop-key.all)) c.in_ok-successors.successors.items c.loop-key.lists.items c.loop-key.place c.in-Some.key.now c.in_err-numbers.field-0.0
    c.loop-key.invariant at c.in_ok-successors.ensures.lists.under fault in
    rw (p.1, p.2) (unnamed_true c.args.existing (g.A.Store.state c.args.source.now) (g.D.Store.state c.args.destination.now) c.args.roots.now c.args.limit _ c.in_err-numbers.field-0.0 fault met
    (successors_first (g.A.Store.state c.args.source.now).is_honest c.args.existing (g.A.Store.state c.args.source.now).entries (g.D.Store.state c.args.destination.now).nodes c.args.roots.now c.args.limit (visits_of c.args.existing c.loop-key.keys c.loop-key.all) c.loop-key.keys c.in_ok-successors.successors.items c.loop-key.lists.items c.loop-key.place c.in-Some.key.now c.in_err-numbers.field-0.0
    c.loop-key.invariant at may c.in_ok-successors.ensures.lists.listed fault))

pub loop-key-preserved : goal.loop-key-preserved
loop-key-preserved g c =
    let at : slice_get (visits_of c.args.existing c.loop-key.keys c.loop-key.all) c.loop-key.place ≡ Some c.in-Some.key.now = sym c.in-Some.ensures.value in
    let is_keys = rw c.deref.ensures.value at c.in_ok-numbers.ensures.keys in
    let names = rw c.deref.ensures.value at c.in_ok-numbers.ensures.numbers in
    let is_all = rw c.deref-in-Some.ensures.value at c.in_ok-note_met-2.ensures in
    let is_lists = rw c.is_held-held.ensures at c.in_ok-keep.ensures in
    let may = rw c.is_held-held.ensures at c.in_ok-successors.ensures.passed in
    let visits = visits_more c.args.existing (g.D.Store.state c.args.destination.now).nodes c.loop-key.keys c.loop-key.all c.in_ok-successors.successors.items c.number_fresh-in-Some.new.keys c.note_met-in-Some.new.all is_keys is_all in
    walk_step (g.A.Store.state c.args.source.now).is_honest c.args.existing (g.A.Store.state c.args.source.now).entries (g.D.Store.state c.args.destination.now).nodes c.args.roots.now c.args.limit (visits_of c.args.existing c.loop-key.keys c.loop-key.all) c.loop-key.keys c.in_ok-successors.successors.items (visits_of c.args.existing c.number_fresh-in-Some.new.keys c.note_met-in-Some.new.all) c.number_fresh-in-Some.new.keys
    c.loop-key.lists.items c.keep.new.lists.items c.in_ok-numbers.numbers c.loop-key.place c.in-Some.key.now c.loop-key.invariant at
    (record { may = may; own = c.in_ok-successors.ensures.lists.listed; under = c.in_ok-successors.ensures.lists.under; distinct = c.in_ok-successors.ensures.lists.distinct; is_all = visits; is_keys = is_keys; names = names; few = c.in_ok-numbers.ensures.few })
    is_lists

pub returns-clause-gathered : goal.returns-clause-gathered
returns-clause-gathered g c =
    let none : slice_get (visits_of c.args.existing c.loop-key.keys c.loop-key.all) c.loop-key.place ≡ None = sym c.in_default.ensures.value in
    subst (λ (ks : List Descriptor). IsGathered (g.A.Store.state c.args.source.now).is_honest c.args.existing (g.A.Store.state c.args.source.now).entries (g.D.Store.state c.args.destination.now).nodes c.args.roots.now c.args.limit ks c.loop-key.lists.items) (sym c.into_keys.ensures.keys)
    (walk_end (g.A.Store.state c.args.source.now).is_honest c.args.existing (g.A.Store.state c.args.source.now).entries (g.D.Store.state c.args.destination.now).nodes c.args.roots.now c.args.limit (visits_of c.args.existing c.loop-key.keys c.loop-key.all) c.loop-key.keys c.loop-key.lists.items c.loop-key.place c.loop-key.invariant (past_from_none (visits_of c.args.existing c.loop-key.keys c.loop-key.all) c.loop-key.place none))
