use Rattle.std.proofs.Common.{◌≡◌, ◌∙◌, inl, inr, true, Err, List, sym, ap, subst}
use Rattle.oci_manifest.specs.Descriptor.{Descriptor}
use Rattle.oci_store.specs.Content.{successors_in}
use Rattle.oci_store.specs.Graph.{Node}
use Rattle.oci_store.specs.Keyed.{has_key, HasAll}
use Rattle.oci_store.specs.Push.{Refused, closed_check}
use Rattle.oci_store.specs.declared.fault.PushFault.{PushFault}
use Rattle.oci_copy.specs.Cause.{CanFail, IsStepCause}
use Rattle.oci_copy.proofs.Growth.{keeps_answered}
use Rattle.oci_copy.proofs.Workers.{step_from_push, held_after, failed_after, halted_after, halted_before, can_fail}
use Rattle.oci_copy.proofs.locked.LockedDestination.push.Goals as goal

pub invariant_of-self : goal.invariant_of-self
invariant_of-self g c =
    let did = c.push_checked-pushed.ensures.pushed in
    let same = c.requires.content.same in
    let ran_out = c.has_run_out-self-inside.ensures in
    let failed = c.has_failed-self-inside.ensures in (
      keeps_answered {listed = c.requires.checked.0} _ did (rw same c.requires.content.own) (rw same c.requires.content.planned) (rw same (sym c.if-has.ensures)) (rw same c.requires.checked.1) c.self.invariant.0,
      halted_after c.self.invariant.1 did.running ran_out.before ran_out.now,
      failed_after g.T.CopyStart.opening.failures (g.D.Store.state c.self.inside.destination).failures (g.D.Store.state c.push_checked-pushed.new.self).failures c.self.invariant.2 did.calm failed.before failed.now,
    )

pub invariant_of-self-in-Err : goal.invariant_of-self-in-Err
invariant_of-self-in-Err g c =
    let did = c.push_checked-pushed.ensures.pushed in
    let same = c.requires.content.same in
    let ran_out = c.has_run_out-self-inside.ensures in
    let failed = c.has_failed-self-inside.ensures in (
      keeps_answered {listed = c.requires.checked.0} _ did (rw same c.requires.content.own) (rw same c.requires.content.planned) (rw same (sym c.if-has.ensures)) (rw same c.requires.checked.1) c.self.invariant.0,
      halted_after c.self.invariant.1 did.running ran_out.before ran_out.now,
      failed_after g.T.CopyStart.opening.failures (g.D.Store.state c.self.inside.destination).failures (g.D.Store.state c.push_checked-pushed.new.self).failures c.self.invariant.2 did.calm failed.before failed.now,
    )

pub by-requires-in-Ok : goal.by-requires-in-Ok
by-requires-in-Ok g c =
    let content = c.args.content in
    let old = (g.D.Store.state c.self.inside.destination).nodes in
    let new = (g.D.Store.state c.push_checked-pushed.new.self).nodes in
    record {
      held = subst (λ (d : Descriptor). has_key new d ≡ true) c.requires.content.same
          (held_after old new content.0 (successors_in content.0 content.1) (rw c.in-Ok.is at c.push_checked-pushed.ensures.pushed.keys.pushed));
    }

pub returns-in-Err : goal.returns-in-Err
returns-in-Err g c =
    let did = c.push_checked-pushed.ensures.pushed in
    let k = c.args.key.now in
    let bytes = c.args.content.1 in
    let before = g.D.Store.state c.self.inside.destination in
    let opening = g.T.CopyStart.opening in
    elim c.locked_fault.ensures [
      | inl memory ↦ subst (IsStepCause (CanFail g.D.Store.state opening) g.T.CopyStart.source opening k) (sym memory) (tt)
      | inr own ↦
          subst (IsStepCause (CanFail g.D.Store.state opening) g.T.CopyStart.source opening k) (sym own.0)
          (step_from_push (CanFail g.D.Store.state opening) g.T.CopyStart.source opening before.nodes k bytes c.requires.checked.0
          (sym c.if-has.ensures) c.requires.checked.1 (subst (λ (graph : List Node). HasAll graph (successors_in k bytes)) (sym c.self.view_is) c.requires.ready) c.in-Err.fault
          (subst (λ (d : Descriptor). Refused c.in-Err.fault (closed_check before.nodes d bytes)) c.requires.content.same (rw c.in-Err.is at did.keys.checked))
          (λ same. can_fail g.D.Store.state opening before c.push_checked-pushed.new.self c.self.invariant.0.rising (did.device (c.in-Err.is ∙ ap (λ (f : PushFault). Err f) same)))
          (λ same. halted_before c.self.inside.ran_out c.has_run_out-self-inside.result c.self.invariant.1 c.has_run_out-self-inside.ensures.before (own.1 same)
          (did.halted (c.in-Err.is ∙ ap (λ (f : PushFault). Err f) same))))
    ]
