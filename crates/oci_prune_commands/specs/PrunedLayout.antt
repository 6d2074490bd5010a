-- What `prune` does to the layout in a directory, and what it prints.
use Rattle.std.specs.Prelude.{◌≡◌, ◌≢◌, ◌⊎◌, ℕ, List, true, false, [], Option, Some, None, IsOk, OnOk, filter, length, map}
use Rattle.std.specs.BTreeSet.{BTreeSet, contains}
use Rattle.oci_command_line.specs.declared.changing.PruneWords.{PruneWords}
use Rattle.oci_manifest.specs.Descriptor.{Descriptor, key_cmp}
use Rattle.oci_layout_store.specs.BlobFiles.{AreBlobs}
use Rattle.oci_layout_store.specs.Blobs.{stored}
use Rattle.oci_dir.specs.Device.{Device, Same}
use Rattle.oci_layout_store.specs.Index.{HasIndex}
use Rattle.oci_layout_store.specs.Layout.{LayoutState, OnlyTags, SameMemory}
use Rattle.oci_layout_store.specs.Meaning.{meaning}
use Rattle.oci_dir.specs.Prunable.{by_name}
use Rattle.oci_layout_store.specs.Opened.{IsOpenedAsIs}
use Rattle.oci_prune.specs.Free.{AreFree}
use Rattle.oci_prune.specs.Orphans.{LosesOrphans}
use Rattle.oci_prune.specs.Plan.{AreKept, IsLeftoverPlan, IsPrunePlan, KeepsEach, RefersIf, roots_of}
use Rattle.oci_prune.specs.Pruned.{flagged, is_gone, kept_of, AreDraftsGone, HasOnlyNeeded, IsTouchedBy, RemovesDrafts}
use Rattle.oci_prune.specs.declared.plan.PrunePlan.{PrunePlan}
use Rattle.oci_prune.specs.declared.run.Pruned.{Pruned}
use Rattle.oci_program.specs.Indexed.{HasIndexOrNoBlobs}
use Rattle.oci_program.specs.Opened.{IsOpenedSettled}
use Rattle.oci_prune_answer.specs.Pruned.{ShowsPlan, ShowsPruned}
use Rattle.oci_store.specs.Tags.{Tags}
use Rattle.oci_prune_commands.specs.PruneText.{tags_of}
use Rattle.oci_prune_commands.specs.declared.answer.FullAnswer.{FullAnswer}

-- the words ask for a prune that keeps each held key
abbrev pub KeepsHeldKeys : PruneWords → Type 0
KeepsHeldKeys words = (words.only_leftovers ≡ false) × (words.removes_untagged ≡ false)

-- the index of a layout has an entry, or there are no blobs
abbrev pub HasEntriesOrNoBlobs : {D : Type 0} → Device → LayoutState D → Type 0
HasEntriesOrNoBlobs dir layout = (layout.opened.content.entries ≢ []) ⊎ (dir.is_honest → AreBlobs dir.file [])

-- ---- the tags

-- the words ask for a prune that keeps what tags need
abbrev pub KeepsTagged : PruneWords → Type 0
KeepsTagged words = (words.only_leftovers ≡ false) × (words.removes_untagged ≡ true)

-- a layout has lost its orphans if the words ask for a prune that keeps what tags need, and else nothing;
-- these tags went
pub record LosesTags {D : Type 0} (device : D → Device) (words : PruneWords) (old new : LayoutState D) (gone : Tags) : Type 0 where
  pub only : OnlyTags old new
  pub orphans : KeepsTagged words → LosesOrphans (device old.dir) old new gone
  pub none : (KeepsTagged words → ⊥) → (new.tags ≡ old.tags) × (gone ≡ [])

-- ---- a plan

-- a plan keeps the keys that the tags of a layout need, with their referrers, and removes the others
pub record PlansTagged {D : Type 0} (device : D → Device) (layout : LayoutState D) (plan : PrunePlan) : Type 0 where
  pub tagged : layout.tags ≢ []
  pub kept : (device layout.dir).is_honest → AreKept layout.graph (roots_of layout) (RefersIf true (meaning (device layout.dir) layout.graph layout.tags)) plan.kept
  pub others : IsPrunePlan (device layout.dir) layout.graph (roots_of layout) plan

-- a plan keeps each held key of a layout, and removes the files that none of them needs
pub record PlansHeld {D : Type 0} (device : D → Device) (layout : LayoutState D) (plan : PrunePlan) : Type 0 where
  pub kept : KeepsEach layout.graph plan
  pub others : IsPrunePlan (device layout.dir) layout.graph (roots_of layout) plan

-- a plan for a layout is the one that the words of the command ask for
pub record IsPlannedBy {D : Type 0} (device : D → Device) (words : PruneWords) (layout : LayoutState D) (plan : PrunePlan) : Type 0 where
  pub leftovers : words.only_leftovers ≡ true → IsLeftoverPlan (device layout.dir) layout.graph plan
  pub tagged : words.only_leftovers ≡ false → words.removes_untagged ≡ true → PlansTagged device layout plan
  pub held : words.only_leftovers ≡ false → words.removes_untagged ≡ false → PlansHeld device layout plan

-- the free keys of a layout are counted if the words ask for a prune that keeps each held key
abbrev pub CountsFree : {D : Type 0} → (D → Device) → PruneWords → LayoutState D → Option ℕ → Type 0
CountsFree device words layout None = (words.only_leftovers ≡ true) ⊎ (words.removes_untagged ≡ true)
CountsFree device words layout (Some n) = KeepsHeldKeys words × (found : BTreeSet Descriptor) × ((device layout.dir).is_honest → AreFree (meaning (device layout.dir) layout.graph layout.tags) (roots_of layout) found) × (n ≡ length found.keys)

-- the layout in a directory was opened, and the answer shows what the words of the command would remove:
-- these tags, and what the layout then does not need
pub record IsDryPrune {D : Type 0} (device : D → Device) (dir : D) (words : PruneWords) (answer : FullAnswer) : Type 0 where
  pub layout : LayoutState D
  pub same : layout.dir ≡ dir
  pub opened : (device dir).is_honest → IsOpenedAsIs (device dir).file layout.graph layout.tags layout.opened
  pub indexed : words.only_leftovers ≡ false → (device dir).is_honest → HasIndexOrNoBlobs (device dir).file
  pub wanted : KeepsHeldKeys words → HasEntriesOrNoBlobs (device dir) layout
  pub rest : LayoutState D
  pub untagged : LosesTags device words layout rest (tags_of answer.untagged.items)
  pub plan : PrunePlan
  pub planned : IsPlannedBy device words rest plan
  pub shown : ShowsPlan plan answer.pruned
  pub counted : CountsFree device words rest answer.pruned.untagged_left

-- ---- a prune

-- The kept keys of a plan are left with their bytes, and the tags stay. If the index is saved without
-- the others, it says so; without a fault no digest has a file that these keys do not need, and the
-- planned drafts are gone. Only the index and planned files change. In an honest directory the flags
-- of the files, and, if the index is saved, those of the drafts, are true exactly for what went.
pub record KeepsPlanned {D : Type 0} (device : D → Device) (old new : LayoutState D) (plan : PrunePlan) (done : Pruned) : Type 0 where
  pub tags : new.tags ≡ old.tags
  pub graph : OnOk done.saved (new.graph ≡ kept_of plan.kept old.graph)
  pub contents : OnOk done.saved ((device old.dir).is_honest → stored (device new.dir).file new.graph ≡ filter (λ e. contains key_cmp plan.kept e.0) (stored (device old.dir).file old.graph))
  pub index : OnOk done.saved (plan.removed.items ≢ [] → (device old.dir).is_honest → HasIndex (device new.dir).file new.graph new.tags new.opened)
  pub files : IsOk done.saved → done.fault ≡ None → (device old.dir).is_honest → HasOnlyNeeded (device new.dir).file new.graph
  pub drafts : IsOk done.saved → done.fault ≡ None → (device old.dir).is_honest → AreDraftsGone (device new.dir).draft (by_name plan.drafts.items)
  pub other : (device old.dir).is_honest → (path : List ℕ) → (IsTouchedBy plan path → ⊥) → (device new.dir).file path ≡ (device old.dir).file path
  pub flags : (device old.dir).is_honest → done.files.items ≡ map (is_gone (device new.dir).file) plan.files.items
  pub draft_flags : IsOk done.saved → (device old.dir).is_honest → RemovesDrafts (device old.dir).draft (device new.dir).draft (flagged (by_name plan.drafts.items) done.drafts.items)

-- the layout and its files are the same, exactly the drafts whose flags are true went, and without a
-- fault no draft is left that was there
pub record LosesLeftovers {D : Type 0} (device : D → Device) (old new : LayoutState D) (plan : PrunePlan) (done : Pruned) : Type 0 where
  pub planned : IsLeftoverPlan (device old.dir) old.graph plan
  pub memory : SameMemory old new
  pub files : (device old.dir).is_honest → Same (device old.dir).file (device new.dir).file
  pub gone : done.fault ≡ None → (device old.dir).is_honest → AreDraftsGone (device new.dir).draft (by_name plan.drafts.items)
  pub flags : (device old.dir).is_honest → RemovesDrafts (device old.dir).draft (device new.dir).draft (flagged (by_name plan.drafts.items) done.drafts.items)

-- a layout was pruned as the words of the command ask for
pub record IsPrunedBy {D : Type 0} (device : D → Device) (words : PruneWords) (old new : LayoutState D) (plan : PrunePlan) (done : Pruned) : Type 0 where
  pub leftovers : words.only_leftovers ≡ true → LosesLeftovers device old new plan done
  pub planned : IsPlannedBy device words old plan
  pub kept : words.only_leftovers ≡ false → KeepsPlanned device old new plan done

-- the layout in a directory was opened, lost these tags, and was pruned without a fault as the words ask
-- for, and the answer shows what was removed
pub record IsPruneRun {D : Type 0} (device : D → Device) (dir : D) (words : PruneWords) (answer : FullAnswer) : Type 0 where
  pub opened : LayoutState D
  pub is_opened : IsOpenedSettled device dir opened
  pub indexed : words.only_leftovers ≡ false → (device dir).is_honest → HasIndexOrNoBlobs (device dir).file
  pub wanted : KeepsHeldKeys words → HasEntriesOrNoBlobs (device opened.dir) opened
  pub rest : LayoutState D
  pub untagged : LosesTags device words opened rest (tags_of answer.untagged.items)
  pub left : LayoutState D
  pub plan : PrunePlan
  pub done : Pruned
  pub pruned : IsPrunedBy device words rest left plan done
  pub saved : IsOk done.saved
  pub whole : done.fault ≡ None
  pub shown : ShowsPruned plan done answer.pruned
  pub counted : CountsFree device words rest answer.pruned.untagged_left
