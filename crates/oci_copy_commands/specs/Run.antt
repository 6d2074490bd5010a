-- What a run of `copy` did, in terms of the words of its command line.
use Rattle.std.specs.Prelude.{◌≡◌, ◌≤◌, ◌⊎◌, ℕ, List, Bool, true, false, [], map, Option, None, Some}
use Rattle.std.specs.Io.KnownBytes.{Appends}
use Rattle.oci_command_line.specs.declared.changing.CopyWords.{CopyWords}
use Rattle.oci_plan.specs.Plan.{Planned}
use Rattle.oci_plan.specs.declared.gathering.Existing.{Existing}
use Rattle.oci_plan.specs.declared.gathering.Existing.TheVariants.{Skip, Descend}
use Rattle.oci_store.specs.Keyed.{HasAll}
use Rattle.oci_store.specs.State.{State}
use Rattle.oci_copy.specs.Planned.{IsPlanOf}
use Rattle.oci_copy.specs.Report.{IsReport}
use Rattle.oci_copy.specs.declared.options.Options.{Options}
use Rattle.oci_layout_store.specs.Brought.{Brings}
use Rattle.oci_dir.specs.Crash.{IsSettled, OnlySettles}
use Rattle.oci_layout_store.specs.Created.{IsCreated, IsFree}
use Rattle.oci_dir.specs.Device.{Device}
use Rattle.oci_layout_store.specs.Entries.{entry_of}
use Rattle.oci_layout_store.specs.Files.{HasFiles}
use Rattle.oci_layout_store.specs.Index.{index_file, layout_file, HasIndex}
use Rattle.oci_layout_store.specs.Lasts.{Lasts}
use Rattle.oci_layout_store.specs.Layout.{LayoutState, SameMemory, no_index}
use Rattle.oci_layout_store.specs.Meaning.{meaning}
use Rattle.oci_layout_store.specs.Opened.{IsOpenedAsIs}
use Rattle.oci_layout_store.specs.Refusal.{IsOpenAsIsFault}
use Rattle.oci_layout_store.specs.declared.fault.LayoutFault.TheVariants as layout
use Rattle.oci_program.specs.Indexed.{HasIndexOrNoBlobs}
use Rattle.oci_program.specs.declared.answer.Form.{Form}
use Rattle.oci_program.specs.declared.answer.Form.TheVariants as form
use Rattle.oci_layout_copy.specs.Between.{BringsOnlyMet, HasReached, IsCopiedBetween, IsTrusted}
use Rattle.oci_layout_copy.specs.Goal.{patterns_of, Goal, IsPrepared}
use Rattle.oci_layout_copy.specs.Mirror.{is_exact, HoldsOnlyReached, IsMirrored, IsWholeSource}
use Rattle.oci_layout_copy.specs.PlannedMirror.{IsPlannedCleanUp}
use Rattle.oci_copy_commands.specs.Behind.{IsLeftBehind}
use Rattle.oci_copy_commands.specs.Printed.{copy_text, fault_in, plan_text, IsCopyAnswer, IsPlanAnswer}
use Rattle.oci_selection.specs.Selected.{set_tags, Selected, Selects}
use Rattle.oci_layout_copy.specs.Settled.{StartsSettled}
use Rattle.oci_copy_commands.specs.declared.answer.CopyAnswer.{CopyAnswer}
use Rattle.oci_copy_commands.specs.declared.behind.LeftBehind.{LeftBehind}
use Rattle.oci_layout_copy.specs.declared.copied.Copied.{Copied}
use Rattle.oci_copy_commands.specs.declared.dry_run.PlanAnswer.{PlanAnswer}
use Rattle.oci_layout_copy.specs.declared.planned.PlannedCleanUp.{PlannedCleanUp}

-- a layout as a store
abbrev pub store_of : {D : Type 0} → (D → Device) → LayoutState D → State
store_of device l = meaning (device l.dir) l.graph l.tags

-- ---- the words

-- with `--descend` a copy also looks below the keys that the destination has
abbrev pub existing_of : Bool → Existing
existing_of false = Skip
existing_of true = Descend

-- the options of a copy that its words name
abbrev pub options_of : CopyWords → Options
options_of words = record { workers = words.workers; max_metadata_bytes = 0; existing = existing_of words.descends }

-- ---- the two layouts

-- the layout in a directory was opened as it is, and nothing was changed
pub record IsOpenedIn {D : Type 0} (device : D → Device) (dir : D) (l : LayoutState D) : Type 0 where
  pub same : l.dir ≡ dir
  pub opened : (device dir).is_honest → IsOpenedAsIs (device dir).file l.graph l.tags l.opened

-- an empty layout was created in a directory
pub record IsCreatedIn {D : Type 0} (device : D → Device) (dir : D) (l : LayoutState D) : Type 0 where
  pub created : IsCreated (device dir) (device l.dir)
  pub free : (device dir).is_honest → IsFree (device dir).file
  pub graph : l.graph ≡ []
  pub tags : l.tags ≡ []
  pub opened : l.opened ≡ no_index

-- the index of a layout was put on the disk, and the layout is the same
pub record IsSettledFrom {D : Type 0} (device : D → Device) (old new : LayoutState D) : Type 0 where
  pub version : (device old.dir).is_honest → IsSettled (device new.dir) layout_file
  pub index : (device old.dir).is_honest → IsSettled (device new.dir) index_file
  pub only : OnlySettles (device old.dir) (device new.dir)
  pub same : SameMemory old new

-- the layout in a directory was opened as it is, or created
abbrev pub IsFound : {D : Type 0} → (D → Device) → D → LayoutState D → Type 0
IsFound device dir l = IsOpenedIn device dir l ⊎ IsCreatedIn device dir l

-- it was found so, and then put on the disk
pub record IsReady {D : Type 0} (device : D → Device) (dir : D) (l : LayoutState D) : Type 0 where
  pub first : LayoutState D
  pub found : IsFound device dir first
  pub settled : IsSettledFrom device first l

-- what a copy did, and what it left behind
abbrev pub Done : Type 0
Done = Copied × LeftBehind

-- ---- a copy

-- A copy by these words of what is selected was made from a source into a layout, and there is a
-- layout that it left: with the selected tags and entries, all that is reached from the roots, and
-- saved. It names what stays behind.
pub record IsCopyMade {S D : Type 0} (from : S → Device) (to : D → Device) (words : CopyWords) (source : LayoutState S) (selected : Selected) (old : LayoutState D) (done : Done) : Type 0 where
  pub left : LayoutState D
  pub workers : words.workers ≤ 64
  pub tagged : left.tags ≡ set_tags old.tags selected.1
  pub brought : Brings (map entry_of selected.2) left.tags old.opened left.opened
  pub held : HasAll left.graph selected.0
  pub met : BringsOnlyMet (store_of from source) old.graph selected.0 left.graph
  pub reported : IsReport (existing_of words.descends) (store_of from source) (store_of to old) selected.0 (store_of to left) done.0.report
  pub reached : HasReached (store_of from source) (store_of to old) selected.0 (store_of to left)
  pub copied : IsCopiedBetween (store_of from source) (store_of to old) selected.0 (store_of to left)
  pub files : IsTrusted (store_of from source) (store_of to old) (store_of to left) → HasFiles (to left.dir).file (store_of to left).entries left.graph left.tags left.opened
  pub lasts : StartsSettled (store_of from source) (store_of to old) → Lasts (to left.dir) (store_of to left).entries left.tags
  pub kept : done.0.removed ≡ None
  pub behind : IsLeftBehind from to words source selected.0 left done.1

-- ---- a mirror

-- A mirror by these words with this goal was made from a source into a layout, and there is a layout
-- that it left: with exactly the tags of the goal, what they need, the selected entries, and saved. It
-- names what stays behind.
pub record IsMirrorMade {S D : Type 0} (from : S → Device) (to : D → Device) (words : CopyWords) (source : LayoutState S) (selected : Selected) (goal : Goal) (old : LayoutState D) (done : Done) : Type 0 where
  pub left : LayoutState D
  pub workers : words.workers ≤ 64
  pub tags : left.tags ≡ set_tags [] goal.1
  pub brought : Brings (map entry_of selected.2) left.tags old.opened left.opened
  pub saved : (to left.dir).is_honest → HasIndex (to left.dir).file left.graph left.tags left.opened
  pub mirrored : IsMirrored to (existing_of words.descends) (is_exact words) (store_of from source) selected.0 goal old left done.0
  pub reached : HasReached (store_of from source) (store_of to old) selected.0 (store_of to left)
  pub held : HasAll left.graph goal.0
  pub only : is_exact words ≡ true → HoldsOnlyReached left.graph goal.0
  pub lasts : StartsSettled (store_of from source) (store_of to old) → Lasts (to left.dir) (store_of to left).entries left.tags
  pub behind : IsLeftBehind from to words source selected.0 left done.1

-- a mirror was made that the words ask for: of their patterns, and exact with `--referrers`
pub record IsMirrorOf {S D : Type 0} (from : S → Device) (to : D → Device) (words : CopyWords) (source : LayoutState S) (selected : Selected) (old : LayoutState D) (done : Done) : Type 0 where
  pub prepared : LayoutState D
  pub goal : Goal
  pub aim : IsPrepared to (patterns_of words.selection) (is_exact words) (selected.0, selected.1) old prepared goal
  pub made : IsMirrorMade from to words source selected goal prepared done

-- ---- a run

-- the copy was made that the words ask for, or with `--prune` the mirror
pub record IsMadeBy {S D : Type 0} (from : S → Device) (to : D → Device) (words : CopyWords) (source : LayoutState S) (selected : Selected) (old : LayoutState D) (done : Done) : Type 0 where
  pub copied : words.prunes ≡ false → IsCopyMade from to words source selected old done
  pub mirrored : words.prunes ≡ true → IsMirrorOf from to words source selected old done

-- the same in a directory, where the layout was opened or created before
pub record IsMadeIn {S D : Type 0} (from : S → Device) (to : D → Device) (words : CopyWords) (source : LayoutState S) (selected : Selected) (dir : D) (done : Done) : Type 0 where
  pub old : LayoutState D
  pub ready : IsReady to dir old
  pub indexed : words.prunes ≡ true → (to dir).is_honest → HasIndexOrNoBlobs (to dir).file
  pub made : IsMadeBy from to words source selected old done

-- what the words select of the source in a directory; one that is mirrored is whole
pub record IsSelectedIn {S : Type 0} (from : S → Device) (words : CopyWords) (dir : S) (source : LayoutState S) (selected : Selected) : Type 0 where
  pub opened : IsOpenedIn from dir source
  pub selects : Selects from source words selected
  pub whole : words.prunes ≡ true → IsWholeSource (is_exact words) source

-- a run with these words copied what they select of the source in one directory into another one
pub record IsCopyRun {S D : Type 0} (from : S → Device) (to : D → Device) (words : CopyWords) (source_dir : S) (dir : D) (selected : Selected) (done : Done) : Type 0 where
  pub source : LayoutState S
  pub chosen : IsSelectedIn from words source_dir source selected
  pub made : IsMadeIn from to words source selected dir done

-- such a run was made without a fault of its prune, and this is its answer
pub record IsAnsweredRun {S D : Type 0} (from : S → Device) (to : D → Device) (words : CopyWords) (source_dir : S) (dir : D) (answer : CopyAnswer) : Type 0 where
  pub selected : Selected
  pub done : Done
  pub run : IsCopyRun from to words source_dir dir selected done
  pub whole : fault_in done.0.removed ≡ None
  pub answers : IsCopyAnswer selected done.0 done.1 answer

-- ---- a dry run

-- what a dry run plans: the keys to copy, and what a mirror would remove
abbrev pub DryRun : Type 0
DryRun = Planned × Option PlannedCleanUp

-- the copy was planned that these options ask for
pub record IsCopyPlanned {S D : Type 0} (from : S → Device) (to : D → Device) (options : Options) (source : LayoutState S) (selected : Selected) (old : LayoutState D) (planned : DryRun) : Type 0 where
  pub plan : IsPlanOf (store_of from source) options (store_of to old) selected.0 planned.0
  pub kept : planned.1 ≡ None

-- the mirror was planned that the words ask for
pub record IsMirrorPlanned {S D : Type 0} (from : S → Device) (to : D → Device) (words : CopyWords) (source : LayoutState S) (selected : Selected) (old : LayoutState D) (planned : DryRun) : Type 0 where
  pub prepared : LayoutState D
  pub goal : Goal
  pub removed : PlannedCleanUp
  pub aim : IsPrepared to (patterns_of words.selection) (is_exact words) (selected.0, selected.1) old prepared goal
  pub plan : IsPlanOf (store_of from source) (options_of words) (store_of to prepared) selected.0 planned.0
  pub is_removed : planned.1 ≡ Some removed
  pub clean_up : IsPlannedCleanUp (to prepared.dir) (store_of from source) (store_of to prepared) planned.0.keys (is_exact words) goal removed

-- the copy was planned that the words ask for, or with `--prune` the mirror
pub record IsPlannedBy {S D : Type 0} (from : S → Device) (to : D → Device) (words : CopyWords) (source : LayoutState S) (selected : Selected) (old : LayoutState D) (planned : DryRun) : Type 0 where
  pub copied : words.prunes ≡ false → IsCopyPlanned from to (options_of words) source selected old planned
  pub mirrored : words.prunes ≡ true → IsMirrorPlanned from to words source selected old planned

-- the same of the layout in a directory, as it is
pub record IsPlannedIn {S D : Type 0} (from : S → Device) (to : D → Device) (words : CopyWords) (source : LayoutState S) (selected : Selected) (dir : D) (planned : DryRun) : Type 0 where
  pub old : LayoutState D
  pub opened : IsOpenedIn to dir old
  pub planned_is : IsPlannedBy from to words source selected old planned

-- the same of an empty layout, for a directory without one
pub record IsPlannedWithout {S D M : Type 0} (from : S → Device) (to : D → Device) (memory : M → Device) (words : CopyWords) (source : LayoutState S) (selected : Selected) (dir : D) (planned : DryRun) : Type 0 where
  pub empty : LayoutState M
  pub absent : IsOpenAsIsFault (to dir) layout.NoLayoutFile
  pub graph : empty.graph ≡ []
  pub tags : empty.tags ≡ []
  pub planned_is : IsPlannedBy from memory words source selected empty planned

-- a run with these words planned the copy of what they select of the source in one directory into
-- another one, as it is; `memory` gives the meaning of an empty layout in memory
pub record IsDryRun {S D M : Type 0} (from : S → Device) (to : D → Device) (memory : M → Device) (words : CopyWords) (source_dir : S) (dir : D) (planned : DryRun) : Type 0 where
  pub source : LayoutState S
  pub selected : Selected
  pub chosen : IsSelectedIn from words source_dir source selected
  pub indexed : words.prunes ≡ true → (to dir).is_honest → HasIndexOrNoBlobs (to dir).file
  pub planned_is : IsPlannedIn from to words source selected dir planned ⊎ IsPlannedWithout from to memory words source selected dir planned

-- such a run was made, and this is its answer
pub record IsAnsweredDryRun {S D M : Type 0} (from : S → Device) (to : D → Device) (memory : M → Device) (words : CopyWords) (source_dir : S) (dir : D) (answer : PlanAnswer) : Type 0 where
  pub planned : DryRun
  pub run : IsDryRun from to memory words source_dir dir planned
  pub answers : IsPlanAnswer planned.0 planned.1 answer

-- ---- the command

-- A run with these words copied as they ask for, or with `--dry-run` planned that copy. As lines, the
-- text of its answer was appended.
pub record IsRunOf {S D M : Type 0} (from : S → Device) (to : D → Device) (memory : M → Device) (words : CopyWords) (source_dir : S) (dir : D) (printed : Form) (old new : Option (List ℕ)) : Type 0 where
  pub copied : words.is_dry ≡ false → (answer : CopyAnswer) × IsAnsweredRun from to words source_dir dir answer × (printed ≡ form.Lines → Appends old new (copy_text answer))
  pub planned : words.is_dry ≡ true → (answer : PlanAnswer) × IsAnsweredDryRun from to memory words source_dir dir answer × (printed ≡ form.Lines → Appends old new (plan_text answer))
