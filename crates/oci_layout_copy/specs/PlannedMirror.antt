-- What a mirror would remove, as a function of the source and of the destination before it.
use Rattle.std.specs.Prelude.{◌≡◌, ◌↔◌, ◌⊎◌, Bool, true, not, List, Contains}
use Rattle.std.specs.BTreeSet.{BTreeSet, contains}
use Rattle.oci_manifest.specs.Descriptor.{Descriptor, key_cmp}
use Rattle.oci_store.specs.Copied.{Agree, IsCopied}
use Rattle.oci_store.specs.State.{State}
use Rattle.oci_store.specs.Tags.{by_bytes}
use Rattle.oci_copy.specs.Grown.{graph_of}
use Rattle.oci_dir.specs.Device.{Device}
use Rattle.oci_layout_store.specs.Layout.{OpenedIndex}
use Rattle.oci_program.specs.declared.fault.ProgramFault.{ProgramFault}
use Rattle.oci_program.specs.declared.fault.ProgramFault.TheVariants as program
use Rattle.oci_prune.specs.After.{after_copy}
use Rattle.oci_prune.specs.Plan.{IsPlanAfter}
use Rattle.oci_prune.specs.Refusal.{IsFaultAfter}
use Rattle.oci_prune_fault.specs.declared.fault.PruneFault.{PruneFault}
use Rattle.oci_layout_copy.specs.Goal.{Goal}
use Rattle.oci_layout_copy.specs.Mirror.{of_prune}
use Rattle.oci_selection.specs.Selected.{other_tags}
use Rattle.oci_layout_copy.specs.declared.planned.PlannedCleanUp.{PlannedCleanUp}

-- the set has these keys, and no other
abbrev pub HasKeys : BTreeSet Descriptor → List Descriptor → Type 0
HasKeys set keys = (k : Descriptor) → (contains key_cmp set k ≡ true) ↔ Contains keys k

-- The graph after a copy that brings these keys is what the contract of a copy says that it leaves,
-- if the source is sound and its keys list what they list in the destination.
abbrev pub IsCopyAfter : State → State → List Descriptor → List Descriptor → Type 0
IsCopyAfter source old keys roots =
    (arriving : BTreeSet Descriptor) → HasKeys arriving keys → source.is_sound → Agree (graph_of source) old.nodes → IsCopied (graph_of source) (graph_of source) roots old.nodes (after_copy source arriving old).nodes

-- What a mirror with this goal would remove from a destination, whose copy brings these keys: the tags
-- that are not the goal's, and by a prune of what the copy leaves, all that does not belong to the
-- goal's roots.
pub record IsPlannedCleanUp (dir : Device) (source old : State) (keys : List Descriptor) (is_exact : Bool) (goal : Goal) (removed : PlannedCleanUp) : Type 0 where
  pub untagged : by_bytes removed.untagged.items ≡ other_tags old.tags goal.1
  pub arriving : BTreeSet Descriptor
  pub arrive : HasKeys arriving keys
  pub pruned : IsPlanAfter dir (after_copy source arriving old) goal.0 (not is_exact) removed.plan

-- why there is no plan of the clean-up after a copy that brings these keys
abbrev pub IsRefusedPlan : Device → OpenedIndex → State → State → List Descriptor → Bool → List Descriptor → ProgramFault → Type 0
IsRefusedPlan dir opened source old keys is_exact roots e =
    (e ≡ program.Memory) ⊎ ((arriving : BTreeSet Descriptor) × (cause : PruneFault) × HasKeys arriving keys × (e ≡ of_prune cause) × IsFaultAfter dir opened (after_copy source arriving old) roots (not is_exact) cause)
