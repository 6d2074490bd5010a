-- Why a copy is refused if neither store fails.
use Rattle.std.specs.Prelude.{◌≡◌, false, List}
use Rattle.oci_manifest.specs.Descriptor.{Descriptor}
use Rattle.oci_store.specs.Keyed.{has_key}
use Rattle.oci_store.specs.Content.{Entry, IsContent}
use Rattle.oci_store.specs.Graph.{Node, nodes_of}
use Rattle.oci_store.specs.State.{State}
use Rattle.oci_plan.specs.declared.fault.PlanFault.TheVariants as plan
use Rattle.oci_plan.specs.Refusal.{IsTooLarge, IsCycleToBring, HasTooMany}
use Rattle.oci_plan.specs.declared.gathering.Existing.{Existing}
use Rattle.oci_plan.specs.Visiting.{IsOnlyInDestination, IsNextVisited}
use Rattle.oci_copy.specs.declared.options.Options.{Options}
use Rattle.oci_copy.specs.Options.{limit_of}
use Rattle.oci_copy.specs.Destination.{IsClosedWhenSkipping}
use Rattle.oci_copy.specs.declared.fault.CopyFault.{CopyFault}
use Rattle.oci_copy.specs.declared.fault.CopyFault.TheVariants as fault

-- neither store fails: the source is honest, its contents read, and it returns each of them; the
-- destination was closed if the copy skips the keys that it has, it had not halted, and none of its
-- puts has failed
pub record IsUnfailing (existing : Existing) (source opening now : State) : Type 0 where
  pub is_honest : source.is_honest
  pub content : IsContent source.entries
  pub gives : (k : Descriptor) → source.fails_at k ≡ false
  pub closed : IsClosedWhenSkipping existing opening.nodes
  pub takes : opening.is_halted → ⊥
  pub no_failures : now.failures ≡ 0

-- neither store fails, whatever the state of the destination now
abbrev pub NeitherFails : {X : Type 0} → Existing → (X → State) → State → State → Type 0
NeitherFails {X} existing state source opening = (store : X) → IsUnfailing existing source opening (state store)

-- if neither store fails, a copy is refused for a memory error, or because there is no plan: the
-- first visited key at fault is in neither store, or is too large and not only in the destination;
-- or a cycle is to be brought, and every visited key is sound; or too many keys are to be brought,
-- and the keys visited so far are sound
abbrev pub RefusedForPlan : List Entry → Options → List Node → List Descriptor → CopyFault → Type 0
RefusedForPlan source options opening roots (fault.Plan (plan.NotFound k)) =
    IsNextVisited options.existing (nodes_of source) source opening roots (limit_of options) k
    × (has_key source k ≡ false) × (has_key opening k ≡ false)
RefusedForPlan source options opening roots (fault.Plan (plan.TooLarge k l)) =
    IsNextVisited options.existing (nodes_of source) source opening roots (limit_of options) k
    × (l ≡ limit_of options) × IsTooLarge (limit_of options) k × (IsOnlyInDestination source opening k → ⊥)
RefusedForPlan source options opening roots (fault.Plan (plan.Cycle keys)) =
    IsCycleToBring options.existing source opening roots (limit_of options) keys.items
RefusedForPlan source options opening roots (fault.Plan plan.TooMany) = HasTooMany options.existing source opening roots (limit_of options)
RefusedForPlan source options opening roots fault.Memory = Unit {0}
RefusedForPlan source options opening roots e = ⊥
