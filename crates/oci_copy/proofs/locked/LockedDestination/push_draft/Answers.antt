use Rattle.std.proofs.Common.{◌≡◌, ◌∙◌, inl, inr, Err, [], refl, sym, ap, subst}
use Rattle.oci_store.specs.Content.{successors_in}
use Rattle.oci_store.specs.declared.fault.PushFault.{PushFault}
use Rattle.oci_store.proofs.Leaves.{IsChecked-leaf, HasAll-leaf}
use Rattle.oci_copy.specs.Cause.{CanFail, IsStepCause}
use Rattle.oci_copy.proofs.Growth.{drafted_calm, drafted_running, keeps_drafted}
use Rattle.oci_copy.proofs.Workers.{step_from_push, step_from_lost, held_after, failed_after, halted_after, halted_before, can_fail}
use Rattle.oci_copy.proofs.locked.LockedDestination.push_draft.Goals as goal

pub invariant_of-self : goal.invariant_of-self
invariant_of-self g c =
    let did = c.push_draft-pushed.ensures in
    let ran_out = c.has_run_out-self-inside.ensures in
    let failed = c.has_failed-self-inside.ensures in (
      keeps_drafted c.requires.own did.lost did.pushed c.requires.leaf c.requires.planned (sym c.if-has.ensures) c.self.invariant.0,
      halted_after c.self.invariant.1 (drafted_running g.T.CopyStart.source c.requires.own did.lost did.pushed) ran_out.before ran_out.now,
      failed_after g.T.CopyStart.opening.failures (g.D.Store.state c.self.inside.destination).failures (g.D.Store.state c.push_draft-pushed.new.self).failures c.self.invariant.2 (drafted_calm g.T.CopyStart.source c.requires.own did.lost did.pushed) failed.before failed.now,
    )

pub invariant_of-self-in-Err : goal.invariant_of-self-in-Err
invariant_of-self-in-Err g c =
    let did = c.push_draft-pushed.ensures in
    let ran_out = c.has_run_out-self-inside.ensures in
    let failed = c.has_failed-self-inside.ensures in (
      keeps_drafted c.requires.own did.lost did.pushed c.requires.leaf c.requires.planned (sym c.if-has.ensures) c.self.invariant.0,
      halted_after c.self.invariant.1 (drafted_running g.T.CopyStart.source c.requires.own did.lost did.pushed) ran_out.before ran_out.now,
      failed_after g.T.CopyStart.opening.failures (g.D.Store.state c.self.inside.destination).failures (g.D.Store.state c.push_draft-pushed.new.self).failures c.self.invariant.2 (drafted_calm g.T.CopyStart.source c.requires.own did.lost did.pushed) failed.before failed.now,
    )

pub by-requires-in-Ok : goal.by-requires-in-Ok
by-requires-in-Ok g c =
    let k = c.args.key.now in
    let old = (g.D.Store.state c.self.inside.destination).nodes in
    let new = (g.D.Store.state c.push_draft-pushed.new.self).nodes in
    elim c.requires.own [
      | inl lost ↦ absurd (rw c.in-Ok.is at (c.push_draft-pushed.ensures.lost lost).keys.refused)
      | inr drafted ↦
          let own = drafted.1 in
          let did = c.push_draft-pushed.ensures.pushed drafted.0 own.is_drafted own.matching in
          record { held = held_after old new k (successors_in k drafted.0) (rw c.in-Ok.is at did.keys.pushed) }
    ]

pub returns-in-Err : goal.returns-in-Err
returns-in-Err g c =
    let k = c.args.key.now in
    let was = c.self.invariant in
    let before = g.D.Store.state c.self.inside.destination in
    let opening = g.T.CopyStart.opening in
    let source = g.T.CopyStart.source in
    let earlier = c.has_run_out-self-inside.ensures.before in
    let is_err = λ (f : PushFault) (same : c.in-Err.fault ≡ f). c.in-Err.is ∙ ap (λ (e : PushFault). Err e) same in
    elim c.locked_fault.ensures [
      | inl memory ↦ subst (IsStepCause (CanFail g.D.Store.state opening) source opening k) (sym memory) (tt)
      | inr told ↦
          subst (IsStepCause (CanFail g.D.Store.state opening) source opening k) (sym told.0) (elim c.requires.own [
            | inl lost ↦
                let did = c.push_draft-pushed.ensures.lost lost in
                step_from_lost (CanFail g.D.Store.state opening) source opening before.nodes k (sym c.if-has.ensures) c.in-Err.fault (rw c.in-Err.is at did.keys.checked)
                (λ same. can_fail g.D.Store.state opening before c.push_draft-pushed.new.self was.0.rising (did.device (is_err _ same)))
                (λ same. halted_before c.self.inside.ran_out c.has_run_out-self-inside.result was.1 earlier (told.1 same) (did.halted (is_err _ same)))
            | inr drafted ↦
                let own = drafted.1 in
                let did = c.push_draft-pushed.ensures.pushed drafted.0 own.is_drafted own.matching in
                step_from_push (CanFail g.D.Store.state opening) source opening before.nodes k drafted.0 []
                (sym c.if-has.ensures) (IsChecked-leaf k drafted.0 [] c.requires.leaf own.matching refl) (HasAll-leaf before.nodes k drafted.0 c.requires.leaf) c.in-Err.fault
                (rw c.in-Err.is at did.keys.checked)
                (λ same. can_fail g.D.Store.state opening before c.push_draft-pushed.new.self was.0.rising (did.device (is_err _ same)))
                (λ same. halted_before c.self.inside.ran_out c.has_run_out-self-inside.result was.1 earlier (told.1 same) (did.halted (is_err _ same)))
          ])
    ]
