-- What a copy that removes what no tag needs leaves of its destination, and why it is refused.
use Rattle.std.specs.Prelude.{◌≡◌, ◌≢◌, ◌≤◌, ◌↔◌, ◌⊎◌, ℕ, Bool, true, not, List, [], filter, map, is_some, IsOk, Option, None, Some, false}
use Rattle.std.specs.BTreeSet.{contains}
use Rattle.oci_command_line.specs.declared.changing.CopyWords.{CopyWords}
use Rattle.oci_manifest.specs.Descriptor.{Descriptor, key_cmp}
use Rattle.oci_store.specs.Content.{Entry}
use Rattle.oci_store.specs.Copied.{Agree, IsCopied}
use Rattle.oci_manifest.specs.MediaTypes.{kind_of}
use Rattle.oci_manifest.specs.declared.kind.Kind.TheVariants.{Leaf}
use Rattle.oci_store.specs.Graph.{Node, IsEdge, Reaches}
use Rattle.oci_store.specs.Keyed.{has_key, value_at}
use Rattle.oci_store.specs.State.{State}
use Rattle.oci_store.specs.Tags.{by_bytes}
use Rattle.oci_plan.specs.declared.gathering.Existing.{Existing}
use Rattle.oci_copy.specs.Grown.{graph_of, BeginsWith}
use Rattle.oci_copy.specs.Report.{IsReport}
use Rattle.oci_copy.specs.declared.fault.CopyFault.{CopyFault}
use Rattle.oci_layout_store.specs.Blobs.{stored}
use Rattle.oci_layout_store.specs.Meaning.{meaning}
use Rattle.oci_dir.specs.Device.{Device}
use Rattle.oci_layout_store.specs.Entries.{said, unreadable_places}
use Rattle.oci_layout_store.specs.Layout.{LayoutState, manifests_of}
use Rattle.oci_dir.specs.Prunable.{by_name}
use Rattle.oci_layout_store.specs.Refusal.{IsPutFault}
use Rattle.oci_program.specs.declared.fault.ProgramFault.{ProgramFault}
use Rattle.oci_program.specs.declared.fault.ProgramFault.TheVariants as program
use Rattle.oci_prune.specs.Belongs.{AllKnown}
use Rattle.oci_prune.specs.Plan.{AreKept, IsPrunePlan, RefersIf, roots_of, roots_with}
use Rattle.oci_prune.specs.Pruned.{flagged, is_gone, kept_of, AreDraftsGone, HasOnlyNeeded, IsTouchedBy, RemovesDrafts}
use Rattle.oci_prune.specs.Refusal.{IsPlanFaultFrom}
use Rattle.oci_prune_fault.specs.declared.fault.PruneFault.{PruneFault}
use Rattle.oci_prune_fault.specs.declared.fault.PruneFault.TheVariants as prune
use Rattle.oci_prune.specs.declared.plan.PrunePlan.{PrunePlan}
use Rattle.oci_prune.specs.declared.run.Pruned.{Pruned}
use Rattle.oci_layout_copy.specs.Between.{BringsOnlyMet, IsTrusted}
use Rattle.oci_layout_copy.specs.Goal.{patterns_of, Fits, Goal, IsPrepared}
use Rattle.oci_selection.specs.Selected.{other_tags}
use Rattle.oci_layout_copy.specs.declared.copied.Copied.{Copied}
use Rattle.oci_layout_copy.specs.declared.clean_up.CleanUp.{CleanUp}

-- ---- the source

-- a key is held if it is of a manifest kind
abbrev pub IsHeldManifest : List Node → Descriptor → Type 0
IsHeldManifest graph k = kind_of k.media_type ≢ Leaf → has_key graph k ≡ true

-- the manifests that a key lists are held
abbrev pub ListsHeldManifests : List Node → Descriptor → Type 0
ListsHeldManifests graph from = (k : Descriptor) → IsEdge graph from k → IsHeldManifest graph k

-- no manifest that a held key lists is missing
abbrev pub HoldsListedManifests : List Node → Type 0
HoldsListedManifests graph = (from : Descriptor) → ListsHeldManifests graph from

-- whether a mirror keeps of what is attached in the destination only what the source has too, and what
-- belongs to tags that stay
abbrev pub is_exact : CopyWords → Bool
is_exact words = is_some words.referrers

-- a source that a mirror may follow: it has a tag, the key of each entry of its index was held when
-- it was opened, none of its manifests was damaged, and each entry is a descriptor; one that an exact
-- mirror may follow also misses no manifest that a held one lists, which may be a signature
pub record IsWholeSource {D : Type 0} (is_exact : Bool) (source : LayoutState D) : Type 0 where
  pub tagged : source.tags ≢ []
  pub known : source.opened.absent ≡ []
  pub undamaged : manifests_of source.opened.damaged ≡ []
  pub readable : unreadable_places (said source.opened.content).entries ≡ []
  pub listed : is_exact ≡ true → HoldsListedManifests source.graph

-- ---- the destination

-- a prune that keeps these keys of a layout too needs no manifest that is missing; if the mirror is not
-- exact, what refers to kept keys is known of an honest directory
abbrev pub IsKnown : {D : Type 0} → (D → Device) → Bool → LayoutState D → List Descriptor → Type 0
IsKnown device is_exact layout keys =
    (not is_exact ≡ true → (device layout.dir).is_honest) → AllKnown layout.graph (roots_with layout keys) (RefersIf (not is_exact) (meaning (device layout.dir) layout.graph layout.tags))

-- a copy with these words has a goal if it prunes: the goal of its patterns, which fits
abbrev pub HasGoal : {D : Type 0} → (D → Device) → CopyWords → Goal → LayoutState D → LayoutState D → Option Goal → Type 0
HasGoal device words selected old new None = words.prunes ≡ false
HasGoal device words selected old new (Some goal) = (words.prunes ≡ true) × IsPrepared device (patterns_of words.selection) (is_exact words) selected old new goal × Fits new selected.0 goal.0

-- ---- what is left

-- a layout with the directory and the keys of the first one, and the tags and entries of the second
abbrev pub relabeled : {D : Type 0} → LayoutState D → LayoutState D → LayoutState D
relabeled held named = record { dir = held.dir; graph = held.graph; tags = named.tags; opened = named.opened }

-- A prune by a plan saved the layout, and removed files and drafts. In an honest directory the answer
-- flags exactly those that went, and no other file but the index changed. Without a fault no digest has
-- a file that a held key does not need, and the planned drafts, which are all that there were, are gone.
pub record RemovesPlanned {D : Type 0} (device : D → Device) (old new : LayoutState D) (plan : PrunePlan) (done : Pruned) : Type 0 where
  pub planned : IsPrunePlan (device old.dir) old.graph (roots_of old) plan
  pub saved : IsOk done.saved
  pub honest : (device old.dir).is_honest ↔ (device new.dir).is_honest
  pub files : done.fault ≡ None → (device old.dir).is_honest → HasOnlyNeeded (device new.dir).file new.graph
  pub drafts : done.fault ≡ None → (device old.dir).is_honest → AreDraftsGone (device new.dir).draft (by_name plan.drafts.items)
  pub flags : (device old.dir).is_honest → done.files.items ≡ map (is_gone (device new.dir).file) plan.files.items
  pub draft_flags : (device old.dir).is_honest → RemovesDrafts (device old.dir).draft (device new.dir).draft (flagged (by_name plan.drafts.items) done.drafts.items)
  pub other : (device old.dir).is_honest → (path : List ℕ) → (IsTouchedBy plan path → ⊥) → (device new.dir).file path ≡ (device old.dir).file path

-- A layout was pruned by a plan, whose kept keys are those that its tags and these roots need, and, unless
-- the mirror is exact, what refers to them, such as signatures. Each stays with its bytes, and nothing
-- else stays.
pub record IsPruned {D : Type 0} (device : D → Device) (is_exact : Bool) (roots : List Descriptor) (old new : LayoutState D) (plan : PrunePlan) (done : Pruned) : Type 0 where
  pub needed : (not is_exact ≡ true → (device old.dir).is_honest) → AreKept old.graph (roots_with old roots) (RefersIf (not is_exact) (meaning (device old.dir) old.graph old.tags)) plan.kept
  pub graph : new.graph ≡ kept_of plan.kept old.graph
  pub contents : (device old.dir).is_honest → stored (device new.dir).file new.graph ≡ filter (λ (e : Entry). contains key_cmp plan.kept e.0) (stored (device old.dir).file old.graph)
  pub removes : RemovesPlanned device old new plan done

-- the layout with the new tags was pruned by the plan that is returned, and the returned tags went
pub record IsCleaned {D : Type 0} (device : D → Device) (is_exact : Bool) (goal : Goal) (old new : LayoutState D) (removed : CleanUp) : Type 0 where
  pub pruned : IsPruned device is_exact goal.0 (relabeled old new) new removed.plan removed.pruned
  pub untagged : by_bytes removed.untagged.items ≡ other_tags old.tags goal.1

-- a copy was cleaned up by the plan that is returned
abbrev pub IsCleanedCopy : {D : Type 0} → (D → Device) → Bool → Goal → LayoutState D → LayoutState D → Copied → Type 0
IsCleanedCopy device is_exact goal old new done = (removed : CleanUp) × (done.removed ≡ Some removed) × IsCleaned device is_exact goal old new removed

-- A copy was cleaned up by the plan that is returned, once its blobs were on the disk: the layout between
-- has the same keys and tags.
pub record IsCleanedSettled {D : Type 0} (device : D → Device) (is_exact : Bool) (goal : Goal) (old new : LayoutState D) (removed : CleanUp) : Type 0 where
  pub settled : LayoutState D
  pub graph : settled.graph ≡ old.graph
  pub tags : settled.tags ≡ old.tags
  pub cleaned : IsCleaned device is_exact goal settled new removed

abbrev pub IsCleanedCopySettled : {D : Type 0} → (D → Device) → Bool → Goal → LayoutState D → LayoutState D → Copied → Type 0
IsCleanedCopySettled device is_exact goal old new done = (removed : CleanUp) × (done.removed ≡ Some removed) × IsCleanedSettled device is_exact goal old new removed

-- A mirror was made, with the layout between the copy and the clean-up: keys came into it that were
-- met on the way from the roots, as many as the report says; all that the source reaches from them, if
-- it is honest and its keys list what they list in the destination. The clean-up left what the goal needs.
pub record IsMirrored {D : Type 0} (device : D → Device) (existing : Existing) (is_exact : Bool) (source : State) (roots : List Descriptor) (goal : Goal) (old new : LayoutState D) (done : Copied) : Type 0 where
  pub copied : LayoutState D
  pub same_tags : copied.tags ≡ old.tags
  pub met : BringsOnlyMet source old.graph roots copied.graph
  pub copy : source.is_honest → Agree (graph_of source) old.graph → IsCopied (graph_of source) (graph_of source) roots old.graph copied.graph
  pub reported : IsReport existing source (meaning (device old.dir) old.graph old.tags) roots (meaning (device copied.dir) copied.graph copied.tags) done.report
  pub cleaned : IsCleanedCopy device is_exact goal copied new done

-- each held key is reached from these keys
abbrev pub HoldsOnlyReached : List Node → List Descriptor → Type 0
HoldsOnlyReached graph keys = (k : Descriptor) → has_key graph k ≡ true → Reaches graph keys k

-- what was held and is reached from these keys is held, and lists what it listed
abbrev pub KeepsHeld : List Node → List Node → List Descriptor → Type 0
KeepsHeld old new keys = (k : Descriptor) → Reaches old keys k → has_key old k ≡ true → value_at new k ≡ value_at old k

-- under the premise about bytes, each key that was held is held with its bytes
abbrev pub KeepsContents : State → State → State → Type 0
KeepsContents source old new = IsTrusted source old new → BeginsWith old.entries new.entries

-- ---- why a mirror is refused

-- the fault of a command for a fault of the prune of its destination
abbrev pub of_prune : PruneFault → ProgramFault
of_prune (prune.Layout e) = program.Destination e
of_prune e = program.Prune e

-- a mirror is refused for a cause of the copy, or for a cause of the save, the plan or the prune
-- after it, of the layout and the directory that are left; `start` is the directory's count of failed
-- puts when it began, and if the save was refused because a put failed, that put failed after it began
abbrev pub IsRefusedMirror : {D : Type 0} → (CopyFault → Type 0) → Bool → List Descriptor → ℕ → Device → LayoutState D → ProgramFault → Type 0
IsRefusedMirror copy is_exact roots start dir l (program.Copy e) = copy e
IsRefusedMirror copy is_exact roots start dir l (program.Destination e) = ((before : ℕ) × (start ≤ before) × IsPutFault before dir.failures e) ⊎ IsPlanFaultFrom dir l (roots_with l roots) (not is_exact) (prune.Layout e)
IsRefusedMirror copy is_exact roots start dir l (program.Prune e) = IsPlanFaultFrom dir l (roots_with l roots) (not is_exact) e
IsRefusedMirror copy is_exact roots start dir l program.Memory = Unit {0}
IsRefusedMirror copy is_exact roots start dir l e = ⊥
