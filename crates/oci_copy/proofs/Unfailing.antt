-- Why a copy is refused where neither store fails.
use Rattle.std.proofs.Common.{◌≡◌, inl, inr, List, refl, sym, ◌∙◌, arith}
use Rattle.std.specs.Prelude.{IsOk}
use Rattle.std.proofs.lemmas.Bool.{false≢true, false_from_ne_true}
use Rattle.oci_manifest.specs.Descriptor.{Descriptor}
use Rattle.oci_store.specs.Keyed.{has_key}
use Rattle.oci_store.specs.Content.{Entry, IsContent, succ_of}
use Rattle.oci_store.specs.Contents.{Contents}
use Rattle.oci_store.specs.Graph.{nodes_of}
use Rattle.oci_store.specs.State.{State, in_memory}
use Rattle.oci_store.specs.declared.fault.PushFault.TheVariants as push
use Rattle.oci_plan.specs.declared.gathering.Existing.{Existing}
use Rattle.oci_store.proofs.Lookups.{All-value_at}
use Rattle.oci_plan.specs.declared.fault.PlanFault.{PlanFault}
use Rattle.oci_plan.specs.declared.fault.PlanFault.TheVariants as plan
use Rattle.oci_copy.specs.declared.options.Options.{Options}
use Rattle.oci_copy.specs.declared.fault.CopyFault.{CopyFault}
use Rattle.oci_copy.specs.declared.fault.CopyFault.TheVariants as fault
use Rattle.oci_copy.specs.Cause.{HasFailed, IsPlanCause, IsStepCause, IsTurnCause, IsRefusal}
use Rattle.oci_copy.specs.Destination.{IsClosedWhenSkipping}
use Rattle.oci_copy.specs.Grown.{HasKnownBytes}
use Rattle.oci_copy.proofs.Causes.{not_err}
use Rattle.oci_copy.proofs.Destinations.{closed_not_refused}
use Rattle.oci_copy.specs.Plain.{IsUnfailing, RefusedForPlan}

module _ (options : Options) {source opening now : State} (unfailing : IsUnfailing options.existing source opening now) where
  pub not_planned : (roots : List Descriptor) (e : PlanFault) → IsPlanCause source options opening roots e → RefusedForPlan source.entries options opening.nodes roots (fault.Plan e)
  not_planned roots (plan.NotFound k) cause = (cause.first unfailing.is_honest, cause.named.1, false_from_ne_true (has_key opening.nodes k) (λ held. cause.spared (held, cause.named.1)))
  not_planned roots (plan.TooLarge k l) cause = (cause.first unfailing.is_honest, cause.named.0, cause.named.1, cause.spared)
  not_planned roots (plan.Cycle keys) cause = cause.first unfailing.is_honest
  not_planned roots (plan.Manifest k e) cause =
      let unread = cause.named.2 in
      let reads = All-value_at (λ (e : Entry). IsOk (succ_of e.0 e.1)) source.entries k unread.bytes unfailing.content.readable (unread.own unfailing.is_honest) in
      absurd (not_err (succ_of k unread.bytes) unread.cause unread.breaks reads)
  not_planned roots (plan.Fetch k e) cause = absurd (false≢true (sym (unfailing.gives k) ∙ cause.named.3))
  not_planned roots plan.Memory cause = absurd (cause.refusal refl)
  not_planned roots plan.TooMany cause = cause.first unfailing.is_honest

  -- a step fails for a memory error alone
  pub step_for_memory : (failed : Type 0) → (failed → ⊥) → (k : Descriptor) (e : CopyFault) → IsStepCause failed source opening k e → e ≡ fault.Memory
  step_for_memory failed none k (fault.Fetch named e) cause = absurd (false≢true (sym (unfailing.gives k) ∙ cause.1))
  step_for_memory failed none k (fault.Push named (push.BadManifest e)) cause = absurd (cause.2 unfailing.is_honest)
  step_for_memory failed none k (fault.Push named push.Device) cause = absurd (none cause.1)
  step_for_memory failed none k (fault.Push named push.Halted) cause = absurd (unfailing.takes cause.1)
  step_for_memory failed none k fault.Memory cause = refl
  step_for_memory failed none k other cause = absurd cause

  turn_for_memory : (k : Descriptor) (e : CopyFault) → IsTurnCause now source opening k e → e ≡ fault.Memory
  turn_for_memory k e cause = elim cause.1 [
    | inl step ↦ step_for_memory (HasFailed opening now) (λ failed. let none = unfailing.no_failures in elim failed [ inl rose ↦ omega arith | inr most ↦ omega arith ]) k e step
    | inr early ↦ absurd (early.1.dishonest unfailing.is_honest)
  ]

  -- so a copy is refused for its plan, or for a memory error
  pub refused_for_plan : (step : State → State → Descriptor → CopyFault → Type 0) → ((k : Descriptor) (e : CopyFault) → step source opening k e → e ≡ fault.Memory)
      → (roots : List Descriptor) (reported : CopyFault) → IsRefusal step options source opening roots reported → RefusedForPlan source.entries options opening.nodes roots reported
  refused_for_plan step only roots (fault.DestinationOpen holder missing) cause = absurd (closed_not_refused options.existing opening.nodes holder missing unfailing.closed cause)
  refused_for_plan step only roots (fault.Plan e) cause = not_planned roots e cause.1
  refused_for_plan step only roots (fault.Fetch k e) cause = let no = only cause.1.0 (fault.Fetch k e) cause.1.2 in cc no
  refused_for_plan step only roots (fault.Push k e) cause = let no = only cause.1.0 (fault.Push k e) cause.1.2 in cc no
  refused_for_plan step only roots (fault.Stuck k) cause = let no = only cause.1.0 (fault.Stuck k) cause.1.2 in cc no
  refused_for_plan step only roots (fault.Incomplete k) cause = let no = only cause.1.0 (fault.Incomplete k) cause.1.2 in cc no
  refused_for_plan step only roots fault.BadWorkers cause = let no = only cause.1.0 fault.BadWorkers cause.1.2 in cc no
  refused_for_plan step only roots (fault.Reference e) cause = let no = only cause.1.0 (fault.Reference e) cause.1.2 in cc no
  refused_for_plan step only roots fault.Memory cause = tt

  pub refused_alone : (roots : List Descriptor) (reported : CopyFault) → IsRefusal (IsTurnCause now) options source opening roots reported → RefusedForPlan source.entries options opening.nodes roots reported
  refused_alone = refused_for_plan (IsTurnCause now) turn_for_memory

-- neither store in memory fails
pub unfailing_in_memory : (existing : Existing) (source opening now : Contents) → IsContent source.entries → IsClosedWhenSkipping existing (nodes_of opening.entries)
    → IsUnfailing existing (in_memory source.entries source.tags) (in_memory opening.entries opening.tags) (in_memory now.entries now.tags)
unfailing_in_memory existing source opening now content closed = record {
  is_honest = tt;
  content = content;
  gives = λ k. refl;
  closed = closed;
  takes = λ never. never;
  no_failures = refl;
}

-- what is supposed so that bytes are known holds of stores in memory
pub known_in_memory : (source opening now : Contents) → HasKnownBytes ⊥ (in_memory source.entries source.tags) (in_memory opening.entries opening.tags) (in_memory now.entries now.tags)
known_in_memory source opening now = record {
  is_honest = tt;
  is_sound = tt;
  is_calm = (refl, omega arith);
  same_old = λ shared. absurd shared;
  same_source = λ shared. absurd shared;
}
