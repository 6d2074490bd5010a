use Rattle.std.proofs.Common.{◌≡◌, ◌++◌, ◌∷◌, [], List, true, sym, ap, ◌∙◌, arith, append-nil, append_assoc}
use Rattle.std.specs.Map.{keys_of}
use Rattle.std.proofs.lemmas.List.Elements.{All-contains}
use Rattle.std.proofs.lemmas.Result.{err_from_is_err_and}
use Rattle.oci_manifest.specs.Descriptor.{Descriptor}
use Rattle.oci_store.specs.Keyed.{has_key}
use Rattle.oci_plan.specs.Plan.{keys_before}
use Rattle.oci_copy.specs.Grown.{graph_of}
use Rattle.oci_copy.specs.Planned.{CanBeRead}
use Rattle.oci_copy.proofs.Growth.{keeps_start}
use Rattle.oci_copy.proofs.Places.{Contains-from_slice_get, keys_before-more, fresh_at, all_held, ready_at, length-more}
use Rattle.oci_copy.proofs.Causes.{turn_earlier}
use Rattle.oci_copy.proofs.single.push_all.Goals as goal

pub loop-place-init : goal.loop-place-init
loop-place-init g c = record {
  keys = sym (append-nil _);
  count = omega arith;
  keeps = keeps_start g.D.Dest.shares (g.A.Store.state c.args.source.now) c.args.plan.now.keys (g.D.Store.state c.args.destination.now);
  running = λ halted. halted;
}

pub push_planned-requires : goal.push_planned-requires
push_planned-requires g c =
    let at = c.in-Some.ensures.key in
    let k = c.in-Some.key.now in
    let source = g.A.Store.state c.args.source.now in
    let opening = (g.D.Store.state c.args.destination.now).nodes in
    let now = (g.D.Store.state c.loop-place.destination).nodes in
    let planned = Contains-from_slice_get c.args.plan.now.keys at.0 k at.2 in
    record {
      there = All-contains (λ (k : Descriptor). has_key source.entries k ≡ true) c.args.plan.now.keys k c.requires.there planned;
      fresh = fresh_at c.args.plan.now c.requires.plan c.requires.order opening now c.loop-place.place at.0 k c.requires.fresh c.loop-place.invariant.keys at.1 at.2;
      reads = λ honest. All-contains (CanBeRead source.entries) c.args.plan.now.keys k (c.requires.reads honest) planned;
      ready = λ honest. ready_at c.args.plan.now c.requires.plan c.requires.order (graph_of source) opening now c.loop-place.place at.0 k (c.requires.follows honest) c.loop-place.invariant.keys at.1 at.2;
    }

pub returns-in_err-push_planned-clause-keeps : goal.returns-in_err-push_planned-clause-keeps
returns-in_err-push_planned-clause-keeps g c =
    let at = c.in-Some.ensures.key in
    c.push_planned.ensures.keeps c.args.plan.now.keys c.args.destination.now (Contains-from_slice_get c.args.plan.now.keys at.0 c.in-Some.key.now at.2) c.loop-place.invariant.keeps

pub returns-in_err-push_planned-clause-cause : goal.returns-in_err-push_planned-clause-cause
returns-in_err-push_planned-clause-cause g c =
    let at = c.in-Some.ensures.key in
    let p = err_from_is_err_and c.from_residual.result c.from_residual.ensures.1 in
    rw (p.1, p.2) (
      c.in-Some.key.now,
      Contains-from_slice_get c.args.plan.now.keys at.0 c.in-Some.key.now at.2,
      turn_earlier (g.A.Store.state c.args.source.now) (g.D.Store.state c.args.destination.now) (g.D.Store.state c.loop-place.destination) (g.D.Store.state c.push_planned.new.destination) c.in-Some.key.now _
          c.loop-place.invariant.running c.loop-place.invariant.keeps.rising c.in_err-push_planned.ensures.cause,
    )

pub loop-place-preserved : goal.loop-place-preserved
loop-place-preserved g c =
    let at = c.in-Some.ensures.key in
    let pushed = c.in_ok-push_planned.ensures.pushed in
    let more = length-more (g.D.Store.state c.loop-place.destination).nodes (g.D.Store.state c.push_planned.new.destination).nodes c.in-Some.key.now pushed in
    record {
      keys = pushed ∙ (ap (λ (ks : List Descriptor). ks ++ c.in-Some.key.now ∷ []) c.loop-place.invariant.keys
          ∙ (append_assoc (keys_of (g.D.Store.state c.args.destination.now).nodes) (keys_before c.loop-place.place c.args.plan.now) (c.in-Some.key.now ∷ []) ∙ ap (λ (ks : List Descriptor). keys_of (g.D.Store.state c.args.destination.now).nodes ++ ks)
          (sym (keys_before-more c.args.plan.now c.requires.plan c.requires.order c.loop-place.place at.0 c.in-Some.key.now at.1 at.2))));
      count = omega (arith, more, c.loop-place.invariant.count);
      keeps = c.push_planned.ensures.keeps c.args.plan.now.keys c.args.destination.now (Contains-from_slice_get c.args.plan.now.keys at.0 c.in-Some.key.now at.2) c.loop-place.invariant.keeps;
      running = λ halted. c.loop-place.invariant.running (c.in_ok-push_planned.ensures.running halted);
    }

pub returns-clause-held : goal.returns-clause-held
returns-clause-held g c =
    all_held c.args.plan.now c.requires.plan c.requires.order (g.D.Store.state c.args.destination.now).nodes (g.D.Store.state c.loop-place.destination).nodes c.loop-place.place
    (omega (arith, c.len-place-end.ensures.len)) c.loop-place.invariant.keys
