use Rattle.std.proofs.Common.{◌≡◌, true, [], inl, inr, refl}
use Rattle.std.proofs.lemmas.Result.{IfErr-weaker}
use Rattle.oci_store.specs.Keyed.{has_key}
use Rattle.oci_plan.specs.Up.{IsUp}
use Rattle.oci_copy.specs.Cause.{CanFail, IsRefusal, IsStepCause, RefusedAt, RefusedByWorkers}
use Rattle.oci_copy.specs.Copy.{IsCopy}
use Rattle.oci_copy.specs.Plain.{NeitherFails, RefusedForPlan}
use Rattle.oci_copy.specs.declared.fault.CopyFault.{CopyFault}
use Rattle.oci_copy.proofs.Headline.{unchanged_grows}
use Rattle.oci_copy.proofs.Roots.{key_held, on_ok_from, refused_at}
use Rattle.oci_copy.proofs.Workers.{answered_weaker}
use Rattle.oci_copy.proofs.extended.extended_copy_graph.Goals as goal

pub returns-then-options-gt-MAX_WORKERS-clause-grows : goal.returns-then-options-gt-MAX_WORKERS-clause-grows
returns-then-options-gt-MAX_WORKERS-clause-grows g c = ([], inl refl, unchanged_grows g.D.Dest.shares (g.A.Store.state c.args.source.now) (g.D.Store.state c.args.destination) [])

pub returns-clause-held : goal.returns-clause-held
returns-clause-held g c =
    on_ok_from c.copy_graph.result.1
    (IsCopy g.D.Dest.shares c.args.options.now (g.A.Store.state c.args.source.now) (g.D.Store.state c.args.destination) c.deref.result.now (g.D.Store.state c.copy_graph.result.0))
    (has_key (g.D.Store.state c.copy_graph.result.0).nodes c.args.key.now ≡ true)
    (λ report copy. key_held (g.D.Store.state c.copy_graph.result.0).nodes c.in-Ok.ensures (rw c.deref.ensures.value at copy.roots_held)) c.copy_graph.ensures.copied

pub returns-clause-refused : goal.returns-clause-refused
returns-clause-refused g c =
    let workers = c.args.options.now.workers in
    let these = IsUp (g.A.Store.state c.args.source.now).nodes c.args.key.now c.args.depth in
    let cause = IsRefusal (IsStepCause (CanFail g.D.Store.state (g.D.Store.state c.args.destination))) c.args.options.now (g.A.Store.state c.args.source.now) (g.D.Store.state c.args.destination) in
    answered_weaker workers (cause c.deref.result.now) (RefusedAt these cause) (λ e h. inr (c.in-Ok.roots.items, c.in-Ok.ensures, rw c.deref.ensures.value at h))
    c.copy_graph.result.1 c.copy_graph.ensures.refused

pub returns-clause-plain : goal.returns-clause-plain
returns-clause-plain g c =
    let workers = c.args.options.now.workers in
    let these = IsUp (g.A.Store.state c.args.source.now).nodes c.args.key.now c.args.depth in
    let cause = RefusedForPlan (g.A.Store.state c.args.source.now).entries c.args.options.now (g.D.Store.state c.args.destination).nodes in
    let neither = NeitherFails c.args.options.now.existing g.D.Store.state (g.A.Store.state c.args.source.now) (g.D.Store.state c.args.destination) in
    IfErr-weaker c.copy_graph.result.1 (λ (e : CopyFault). neither → RefusedByWorkers workers (cause c.deref.result.now) e) (λ (e : CopyFault). neither → RefusedByWorkers workers (RefusedAt these cause) e)
    (λ e h unfailing. refused_at these cause workers c.in-Ok.roots.items e c.in-Ok.ensures (rw c.deref.ensures.value at (h unfailing)))
    c.copy_graph.ensures.plain
