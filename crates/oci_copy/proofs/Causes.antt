-- Why a planned key is not pushed, and what that says of the copy.
use Rattle.std.proofs.Common.{◌≡◌, ◌∙◌, ◌⊎◌, ℕ, ◌≤◌, inl, inr, false, List, [], Option, Some, None, Result, Ok, Err, refl, sym, ap, subst, arith}
use Rattle.std.specs.Prelude.{Contains, IsOk, option_map, unwrap_or}
use Rattle.std.specs.Result.{result_unwrap_or}
use Rattle.oci_manifest.specs.Descriptor.{Descriptor}
use Rattle.oci_manifest.specs.Fault.{Fault}
use Rattle.oci_store.specs.Graph.{Node, nodes_of}
use Rattle.oci_store.specs.Keyed.{value_at, has_key, HasAll, first_missing}
use Rattle.oci_store.specs.Content.{Entry, IsChecked, succ_of, successors_in}
use Rattle.oci_store.specs.State.{State}
use Rattle.oci_store.specs.Push.{Refusal, Refused, IsRaised, closed_check, held_check, already_exists, size_mismatch, digest_mismatch, bad_manifest, missing_successor}
use Rattle.oci_store.specs.declared.fault.PushFault.{PushFault}
use Rattle.oci_store.specs.declared.fault.PushFault.TheVariants as push
use Rattle.oci_store.proofs.Lookups.{first_missing-from_HasAll}
use Rattle.oci_plan.specs.Plan.{Planned}
use Rattle.oci_plan.specs.Visiting.{successors_at}
use Rattle.oci_plan.proofs.Items.{value_at-nodes_of}
use Rattle.oci_copy.specs.declared.options.Options.{Options}
use Rattle.oci_copy.specs.declared.fault.CopyFault.{CopyFault}
use Rattle.oci_copy.specs.declared.fault.CopyFault.TheVariants as fault
use Rattle.oci_plan.specs.declared.fault.PlanFault.{PlanFault}
use Rattle.oci_copy.specs.Cause.{HasFailed, IsTooEarly, IsStepCause, IsTurnCause, IsRefusal}
use Rattle.oci_copy.specs.Fault.{IsEarly, of_push}
use Rattle.oci_copy.specs.Destination.{IsNotClosedWhenSkipping}
use Rattle.oci_copy.specs.Grown.{graph_of}
use Rattle.oci_copy.specs.Planned.{IsPlanOf}
use Rattle.oci_copy.proofs.Checks.{closed_check-read}

-- a failure that was counted is a failure
pub HasFailed-raised : (before now : State) → IsRaised before.failures now.failures → HasFailed before now
HasFailed-raised before now raised = elim raised [ inl more ↦ inl (omega arith) | inr most ↦ inr most.1 ]

-- what the source's bytes list is what the source lists
pub listed_at : (entries : List Entry) (k : Descriptor) (bytes : List ℕ) (listed : List Descriptor) → value_at entries k ≡ Some bytes → succ_of k bytes ≡ Ok listed
    → successors_at (nodes_of entries) k ≡ listed
listed_at entries k bytes listed own reads =
    ap (λ (o : Option (List Descriptor)). unwrap_or o []) (value_at-nodes_of entries k ∙ ap (option_map (successors_in k)) own)
    ∙ ap (λ (r : Result (List Descriptor) Fault). result_unwrap_or r []) reads

-- what is refused is not read
pub not_err : {X F : Type 0} (r : Result X F) (f : F) → r ≡ Err f → IsOk r → ⊥
not_err (Ok x) f e ok = cc e
not_err (Err g) f e ok = cc ok

-- a fault that is reported as it is, or as a memory error, has a cause that both have
pub reported_as : (P : CopyFault → Type 0) (e reported : CopyFault) → (reported ≡ fault.Memory) ⊎ (reported ≡ e) → P fault.Memory → P e → P reported
reported_as P e reported (inl memory) of_memory own = rw memory of_memory
reported_as P e reported (inr is) of_memory own = rw is own

-- why a push is refused whose check finds no fault except a listed key that is not held: then the
-- copy is stuck
pub push_cause : (failed : Type 0) (source opening : State) (k : Descriptor) (check : Result (List Descriptor) Refusal) → ((r : Refusal) → check ≡ Err r → (m : Descriptor) × (r ≡ missing_successor m))
    → (e : PushFault) → Refused e check → (e ≡ push.Device → failed) → (e ≡ push.Halted → opening.is_halted)
    → IsStepCause failed source opening k (of_push k e) ⊎ ((m : Descriptor) × (of_push k e ≡ fault.Stuck k) × (check ≡ Err (missing_successor m)))
push_cause failed source opening k check only push.AlreadyExists refused device halt = let it = only already_exists refused in cc (it.1)
push_cause failed source opening k check only push.SizeMismatch refused device halt = let it = only size_mismatch refused in cc (it.1)
push_cause failed source opening k check only push.DigestMismatch refused device halt = let it = only digest_mismatch refused in cc (it.1)
push_cause failed source opening k check only (push.BadManifest m) refused device halt = let it = only (bad_manifest refused.0) refused.1 in cc (it.1)
push_cause failed source opening k check only push.Memory refused device halt = inl tt
push_cause failed source opening k check only (push.MissingSuccessor m) refused device halt = inr (m, refl, refused)
push_cause failed source opening k check only push.Device refused device halt = inl (refl, device refl)
push_cause failed source opening k check only push.Halted refused device halt = inl (refl, halt refl)

module _ (source before now : State) (k : Descriptor) (bytes : List ℕ) (listed : List Descriptor)
    (fresh : has_key before.nodes k ≡ false) (checked : IsChecked k bytes listed) (own : source.is_honest → value_at source.entries k ≡ Some bytes)
    (ready : source.is_honest → HasAll before.nodes (successors_at (graph_of source) k)) (same : now.nodes ≡ before.nodes) where
  check : closed_check before.nodes k bytes ≡ held_check listed (first_missing before.nodes listed)
  check = closed_check-read before.nodes k bytes listed fresh checked

  -- the only cause that is left: the first of the listed keys that is not held
  missing_first : (o : Option Descriptor) (r : Refusal) → held_check listed o ≡ Err r → (m : Descriptor) × (o ≡ Some m) × (r ≡ missing_successor m)
  missing_first None r e = cc e
  missing_first (Some m) r e = let is : missing_successor m ≡ r = cc e in (m, refl, sym is)

  only : (r : Refusal) → closed_check before.nodes k bytes ≡ Err r → (m : Descriptor) × (first_missing before.nodes listed ≡ Some m) × (r ≡ missing_successor m)
  only r e = missing_first (first_missing before.nodes listed) r (sym check ∙ e)

  not_honest : (m : Descriptor) → first_missing before.nodes listed ≡ Some m → source.is_honest → ⊥
  not_honest m first h =
      let held : HasAll before.nodes listed = subst (HasAll before.nodes) (listed_at source.entries k bytes listed (own h) checked.reads) (ready h) in
      let both : None ≡ Some m = sym (first_missing-from_HasAll before.nodes listed held) ∙ first in
      cc both

  too_early : (m : Descriptor) → first_missing before.nodes listed ≡ Some m → IsTooEarly source now k
  too_early m first = record {
    bytes = bytes;
    listed = listed;
    missing = m;
    matching = checked.matching;
    reads = checked.reads;
    first = subst (λ (graph : List Node). first_missing graph listed ≡ Some m) (sym same) first;
    dishonest = not_honest m first;
  }

  lacks : has_key now.nodes k ≡ false
  lacks = subst (λ (graph : List Node). has_key graph k ≡ false) (sym same) fresh

  -- why a key is not pushed at its turn
  pub turn_cause : (e : PushFault) (reported : CopyFault) → Refused e (closed_check before.nodes k bytes) → (e ≡ push.Device → HasFailed before now) → (e ≡ push.Halted → before.is_halted)
      → (reported ≡ fault.Memory) ⊎ (reported ≡ of_push k e) → IsTurnCause now source before k reported
  turn_cause e reported refused device halt tells = reported_as (IsTurnCause now source before k) (of_push k e) reported tells (lacks, inl tt) (
    lacks,
    elim push_caused [
      | inl step ↦ inl step
      | inr early ↦ inr (early.1, (let it = only (missing_successor early.0) early.2 in too_early it.0 it.1))
    ],
  )
    where
      push_caused : IsStepCause (HasFailed before now) source before k (of_push k e) ⊎ ((m : Descriptor) × (of_push k e ≡ fault.Stuck k) × (closed_check before.nodes k bytes ≡ Err (missing_successor m)))
      push_caused = push_cause (HasFailed before now) source before k (closed_check before.nodes k bytes) (λ r wrong. let it = only r wrong in (it.0, it.2)) e refused device halt

-- a cause at one key's turn is a cause since an earlier opening
pub turn_earlier : (source opening before now : State) (k : Descriptor) (reported : CopyFault) → (before.is_halted → opening.is_halted) → opening.failures ≤ before.failures
    → IsTurnCause now source before k reported → IsTurnCause now source opening k reported
turn_earlier source opening before now k reported halts earlier cause = (cause.0, elim cause.1 [ inl step ↦ inl (go reported step) | inr early ↦ inr early ])
  where
    go : (t : CopyFault) → IsStepCause (HasFailed before now) source before k t → IsStepCause (HasFailed opening now) source opening k t
    go (fault.Push named push.Device) h = (h.0, elim h.1 [ inl rose ↦ inl (omega arith) | inr most ↦ inr most ])
    go (fault.Push named push.Halted) h = (h.0, halts h.1)
    go other h = h

-- why a copy is refused once it has a plan, by a step that is refused for nothing that comes before
-- it
pub refused_in_run : {source : State} {options : Options} {opening : State} {roots : List Descriptor} {p : Planned} (step : State → State → Descriptor → CopyFault → Type 0)
    → ((k holder missing : Descriptor) → step source opening k (fault.DestinationOpen holder missing) → ⊥) → ((k : Descriptor) (e : PlanFault) → step source opening k (fault.Plan e) → ⊥)
    → (reported : CopyFault) → IsPlanOf source options opening roots p → (k : Descriptor) → Contains p.keys k
    → step source opening k reported → IsRefusal step options source opening roots reported
refused_in_run step opens plans (fault.DestinationOpen holder missing) plan k there cause = absurd (opens k holder missing cause)
refused_in_run step opens plans (fault.Plan e) plan k there cause = absurd (plans k e cause)
refused_in_run step opens plans fault.Memory plan k there cause = tt
refused_in_run step opens plans other plan k there cause = (plan.closed, (k, λ h. (plan.outside h k).0 there, cause))

-- why a copy on one thread is refused once it has a plan
pub refused_at_turn : {source : State} {options : Options} {opening : State} {roots : List Descriptor} {p : Planned} (now : State) (reported : CopyFault) → IsPlanOf source options opening roots p
    → (k : Descriptor) → Contains p.keys k → IsTurnCause now source opening k reported
    → IsRefusal (IsTurnCause now) options source opening roots reported
refused_at_turn now = refused_in_run (IsTurnCause now)
    (λ k holder missing cause. elim cause.1 [ inl never ↦ never | inr early ↦ (let no = early.0 in cc no) ])
    (λ k e cause. elim cause.1 [ inl never ↦ never | inr early ↦ (let no = early.0 in cc no) ])

-- why a copy is refused whose destination is
pub refused_open : (step : State → State → Descriptor → CopyFault → Type 0) (options : Options) (source opening : State) (roots : List Descriptor) (reported : CopyFault)
    → (reported ≡ fault.Memory) ⊎ ((holder : Descriptor) × (missing : Descriptor) × (reported ≡ fault.DestinationOpen holder missing) × IsNotClosedWhenSkipping options.existing opening.nodes holder missing)
    → IsRefusal step options source opening roots reported
refused_open step options source opening roots reported (inl memory) = rw memory (tt)
refused_open step options source opening roots reported (inr it) = rw it.2 it.3

-- why a copy is refused that has none
pub refused_at_start : (step : State → State → Descriptor → CopyFault → Type 0) (options : Options) (source opening : State) (roots : List Descriptor) (reported : CopyFault)
    → IsRefusal (λ (s o : State) (k : Descriptor) (e : CopyFault). ⊥) options source opening roots reported → IsRefusal step options source opening roots reported
refused_at_start step options source opening roots (fault.DestinationOpen holder missing) cause = cause
refused_at_start step options source opening roots (fault.Plan e) cause = cause
refused_at_start step options source opening roots fault.Memory cause = tt
refused_at_start step options source opening roots other cause = absurd (cause.1.2)

-- a copy that has no plan is not refused for the number of workers
pub other_at_start : (options : Options) (source opening : State) (roots : List Descriptor) (reported : CopyFault)
    → IsRefusal (λ (s o : State) (k : Descriptor) (e : CopyFault). ⊥) options source opening roots reported → reported ≡ fault.BadWorkers → ⊥
other_at_start options source opening roots reported cause same =
    (subst (IsRefusal (λ (s o : State) (k : Descriptor) (e : CopyFault). ⊥) options source opening roots) same cause).1.2

-- no step is refused as a copy is before its first push
pub step_later : (failed : Type 0) (source opening : State) (k : Descriptor) (reported : CopyFault) → IsStepCause failed source opening k reported → IsEarly reported → ⊥
step_later failed source opening k (fault.DestinationOpen holder missing) cause early = cause
step_later failed source opening k (fault.Plan e) cause early = cause
step_later failed source opening k fault.BadWorkers cause early = cause
step_later failed source opening k (fault.Reference e) cause early = cause
step_later failed source opening k other cause early = early
