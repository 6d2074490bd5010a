-- Why a copy is refused.
use Rattle.std.specs.Prelude.{◌≡◌, ◌≢◌, ℕ, ◌-◌, ◌^◌, ◌<◌, ◌≤◌, ◌⊎◌, ◌↔◌, true, false, List, Some, Result, Ok, Err}
use Rattle.oci_manifest.specs.Descriptor.{Descriptor}
use Rattle.oci_store.specs.Keyed.{has_key, first_missing}
use Rattle.oci_store.specs.Content.{Matches, succ_of}
use Rattle.oci_store.specs.State.{State}
use Rattle.oci_store.specs.declared.fault.PushFault.TheVariants as push
use Rattle.oci_plan.specs.Met.{NamesMet}
use Rattle.oci_plan.specs.Outside.{IsToBring}
use Rattle.oci_plan.specs.Refusal.{IsDeviceFault, IsUnread, IsKeyFault, NamesNoneOnlyInDestination, NamesVisited, IsFirstFault}
use Rattle.oci_plan.specs.declared.gathering.Existing.{Existing}
use Rattle.oci_plan.specs.declared.fault.PlanFault.{PlanFault}
use Rattle.oci_plan.specs.declared.fault.PlanFault.TheVariants as plan
use Rattle.oci_copy.specs.Grown.{graph_of}
use Rattle.oci_copy.specs.declared.options.Options.{Options}
use Rattle.oci_copy.specs.Options.{limit_of}
use Rattle.oci_copy.specs.Destination.{IsClosedWhenSkipping, IsNotClosedWhenSkipping}
use Rattle.oci_copy.specs.declared.fault.CopyFault.{CopyFault}
use Rattle.oci_copy.specs.declared.fault.CopyFault.TheVariants as fault

-- why there is no plan: the keys that the fault names are at fault, none of them is only in the
-- destination, the plan visits each, and each was met on the way from the roots; with an honest
-- source, no fault comes before this one
pub record IsPlanCause (source : State) (options : Options) (opening : State) (roots : List Descriptor) (e : PlanFault) : Type 0 where
  pub refusal : e ≢ plan.Memory
  pub named : IsKeyFault source (limit_of options) e
  pub spared : NamesNoneOnlyInDestination source.entries opening.nodes e
  pub visited : NamesVisited options.existing opening.nodes e
  pub met : NamesMet options.existing source.entries opening.nodes roots e
  pub first : source.is_honest → IsFirstFault options.existing source.entries opening.nodes roots (limit_of options) e

-- if the source is honest, the copy has to bring the key
abbrev pub IsWanted : Existing → State → State → List Descriptor → Descriptor → Type 0
IsWanted existing source opening roots k = source.is_honest → IsToBring existing (graph_of source) opening.nodes roots k

-- a put failed between the two states, or the count of failed puts is at its greatest value and
-- stays
abbrev pub HasFailed : State → State → Type 0
HasFailed opening now = (opening.failures < now.failures) ⊎ (now.failures ≡ 2 ^ 64 - 1)

-- a store of this kind may have failed puts since the opening: across a lock no more is known of a
-- failed put
abbrev pub CanFail : {X : Type 0} → (X → State) → State → Type 0
CanFail {X} state opening = (store : X) × HasFailed opening (state store)

-- why the content of a planned key cannot be had: the device of the source fails there, and has
-- other bytes only if the source is not sound; or the fetched bytes match the key and do not read,
-- for the reason in the fault, and no honest source has such bytes
abbrev pub IsContentCause : State → Descriptor → CopyFault → Type 0
IsContentCause source k (fault.Fetch named e) = (named ≡ k) × (source.fails_at k ≡ true) × IsDeviceFault source e
IsContentCause source k (fault.Push named (push.BadManifest e)) = (named ≡ k) × IsUnread source.is_honest source.entries k e × (source.is_honest → ⊥)
IsContentCause source k fault.Memory = Unit {0}
IsContentCause source k e = ⊥

-- why a planned key is not pushed: its content cannot be had, a put failed, as the first type
-- states, or the destination had halted
abbrev pub IsStepCause : Type 0 → State → State → Descriptor → CopyFault → Type 0
IsStepCause failed source opening k (fault.Push named push.Device) = (named ≡ k) × failed
IsStepCause failed source opening k (fault.Push named push.Halted) = (named ≡ k) × opening.is_halted
IsStepCause failed source opening k e = IsContentCause source k e

-- the answer of a step that pushes a planned key: the key that is held now, or a fault with such a
-- cause
abbrev pub IsStepAnswer : Type 0 → State → State → Descriptor → Result Descriptor CopyFault → Type 0
IsStepAnswer failed source opening k (Ok held) = held ≡ k
IsStepAnswer failed source opening k (Err e) = IsStepCause failed source opening k e

-- the fetched bytes match the key and list a key that the destination does not hold, and `missing`
-- is the first such key; no honest source has such bytes at the turn of the key
pub record IsTooEarly (source now : State) (k : Descriptor) : Type 0 where
  pub bytes : List ℕ
  pub listed : List Descriptor
  pub missing : Descriptor
  pub matching : Matches k bytes
  pub reads : succ_of k bytes ≡ Ok listed
  pub first : first_missing now.nodes listed ≡ Some missing
  pub dishonest : source.is_honest → ⊥

-- why a planned key is not pushed at its turn on one thread: it is not held afterwards, and one of
-- the causes above holds, with the failed puts of this destination, or the key is too early
abbrev pub IsTurnCause : State → State → State → Descriptor → CopyFault → Type 0
IsTurnCause now source opening k e = (has_key now.nodes k ≡ false)
    × (IsStepCause (HasFailed opening now) source opening k e ⊎ ((e ≡ fault.Stuck k) × IsTooEarly source now k))

-- a memory error, or a fault that has its cause at one of these
abbrev pub RefusedAt : {X : Type 0} → (X → Type 0) → (X → CopyFault → Type 0) → CopyFault → Type 0
RefusedAt {X} these cause e = (e ≡ fault.Memory) ⊎ ((x : X) × these x × cause x e)

-- Why a copy is refused, in this order: the destination is not closed; there is no plan; a key that
-- the copy has to bring is not pushed, for the cause `step`. A memory error is possible at any
-- point.
abbrev pub IsRefusal : (State → State → Descriptor → CopyFault → Type 0) → Options → State → State → List Descriptor → CopyFault → Type 0
IsRefusal step options source opening roots (fault.DestinationOpen holder missing) =
    IsNotClosedWhenSkipping options.existing opening.nodes holder missing
IsRefusal step options source opening roots (fault.Plan e) = IsClosedWhenSkipping options.existing opening.nodes
    × IsPlanCause source options opening roots e
IsRefusal step options source opening roots fault.Memory = Unit {0}
IsRefusal step options source opening roots e = IsClosedWhenSkipping options.existing opening.nodes
    × ((k : Descriptor) × IsWanted options.existing source opening roots k × step source opening k e)

-- why a copy by workers is refused: more than 64 workers are asked for, or at most 64 are and the
-- copy has this cause
abbrev pub RefusedByWorkers : ℕ → (CopyFault → Type 0) → CopyFault → Type 0
RefusedByWorkers workers cause e = ((e ≡ fault.BadWorkers) × (64 < workers)) ⊎ ((workers ≤ 64) × cause e)

-- the answer of a copy by workers: a success with at most 64 workers, or a fault with such a cause;
-- it is refused for the number of workers exactly if more than 64 are asked for
abbrev pub IsAnswerByWorkers : {X : Type 0} → ℕ → (CopyFault → Type 0) → Result X CopyFault → Type 0
IsAnswerByWorkers {X} workers cause (Ok x) = workers ≤ 64
IsAnswerByWorkers {X} workers cause (Err e) = ((e ≡ fault.BadWorkers) ↔ (64 < workers)) × RefusedByWorkers workers cause e
