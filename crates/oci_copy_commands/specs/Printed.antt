-- What a copy answers and prints.
use Rattle.std.specs.Prelude.{◌≡◌, ◌++◌, ◌^◌, ◌-◌, ℕ, ⊤, List, [], length, map, min, codes, flat_map, string_bytes, sum_by, Option, None, Some}
use Rattle.std.specs.Borrow.{Bor}
use Rattle.std.specs.Fmt.{decimal}
use Rattle.oci_manifest.specs.Descriptor.{Descriptor, key_text}
use Rattle.oci_store.specs.Tags.{Tags, by_bytes}
use Rattle.oci_plan.specs.Plan.{keys_before, Planned}
use Rattle.oci_copy.specs.Report.{report_text}
use Rattle.oci_copy.specs.declared.report.Report.{Report}
use Rattle.oci_prune_fault.specs.declared.fault.PruneFault.{PruneFault}
use Rattle.oci_prune_answer.specs.Pruned.{prune_text, ShowsPlan, ShowsPruned}
use Rattle.oci_program.specs.declared.answer.Tagged.{Tagged}
use Rattle.oci_selection.specs.Selected.{Selected}
use Rattle.oci_copy_commands.specs.declared.answer.CleanUpAnswer.{CleanUpAnswer}
use Rattle.oci_copy_commands.specs.declared.answer.CopyAnswer.{CopyAnswer}
use Rattle.oci_copy_commands.specs.declared.behind.LeftBehind.{LeftBehind}
use Rattle.oci_layout_copy.specs.declared.clean_up.CleanUp.{CleanUp}
use Rattle.oci_layout_copy.specs.declared.copied.Copied.{Copied}
use Rattle.oci_copy_commands.specs.declared.dry_run.PlanAnswer.{PlanAnswer}
use Rattle.oci_layout_copy.specs.declared.planned.PlannedCleanUp.{PlannedCleanUp}

-- the tags of an answer, in their order
abbrev pub tags_of : List Tagged → Tags
tags_of tagged = map (λ (t : Tagged). (string_bytes t.tag, t.descriptor)) tagged

-- ---- the answer of a copy

-- the answer of a clean-up names the tags that went, in their order, and shows what was pruned
pub record IsCleanUpAnswer (removed : CleanUp) (answer : CleanUpAnswer) : Type 0 where
  pub untagged : tags_of answer.untagged.items ≡ by_bytes removed.untagged.items
  pub pruned : ShowsPruned removed.plan removed.pruned answer.pruned
  pub left : answer.pruned.untagged_left ≡ None

-- the fault of the prune of what was removed, if something was and the prune has one
abbrev pub fault_in : Option CleanUp → Option PruneFault
fault_in None = None
fault_in (Some removed) = removed.pruned.fault

-- there is one only of a copy that prunes
abbrev pub IsRemovedAnswer : Option CleanUp → Option CleanUpAnswer → Type 0
IsRemovedAnswer None None = ⊤
IsRemovedAnswer None (Some answer) = ⊥
IsRemovedAnswer (Some removed) None = ⊥
IsRemovedAnswer (Some removed) (Some answer) = IsCleanUpAnswer removed answer

-- the answer of a copy names the selected tags, in their order, the report, what was removed, and what
-- was left behind
pub record IsCopyAnswer (selected : Selected) (done : Copied) (stays : LeftBehind) (answer : CopyAnswer) : Type 0 where
  pub copied : tags_of answer.copied.items ≡ selected.1
  pub report : answer.report ≡ done.report
  pub removed : IsRemovedAnswer done.removed answer.removed
  pub behind : answer.behind ≡ stays

-- ---- its lines

-- the line of a tag that was set: the key that it names
abbrev pub copied_line : Descriptor → List ℕ
copied_line k = codes "copied " ++ key_text k ++ codes "\n"

abbrev pub copied_lines : Tags → List ℕ
copied_lines tags = flat_map (λ (t : List ℕ × Descriptor). copied_line t.1) tags

-- the line of a report
abbrev pub report_line : Report → List ℕ
report_line r = report_text r ++ codes "\n"

-- the line of a tag that went, and the key that it named
abbrev pub untagged_line : List ℕ × Descriptor → List ℕ
untagged_line t = codes "untagged " ++ t.0 ++ codes " " ++ key_text t.1 ++ codes "\n"

abbrev pub untagged_lines : Tags → List ℕ
untagged_lines tags = flat_map untagged_line tags

-- the lines of what was removed, or would be: each tag, and then those of the prune
abbrev pub clean_up_text : CleanUpAnswer → List ℕ
clean_up_text a = untagged_lines (tags_of a.untagged.items) ++ prune_text a.pruned

-- the same, if there is something
abbrev pub removed_text : Option CleanUpAnswer → List ℕ
removed_text None = []
removed_text (Some a) = clean_up_text a

-- the lines of a copy: one for each tag that it set, the report, and what was removed
abbrev pub copy_text : CopyAnswer → List ℕ
copy_text a = copied_lines (tags_of a.copied.items) ++ (report_line a.report ++ removed_text a.removed)

-- ---- a dry run

-- the keys of an answer
abbrev pub keys_in : List (Bor Descriptor) → List Descriptor
keys_in keys = map (λ (k : Bor Descriptor). k.now) keys

-- the sum of the sizes of keys
abbrev pub sum_of_sizes : List (Bor Descriptor) → ℕ
sum_of_sizes keys = sum_by (λ (k : Bor Descriptor). k.now.size) keys

-- the answer names the tags that would go, in their order, and shows what would be pruned
pub record IsPlannedCleanUpAnswer (planned : PlannedCleanUp) (answer : CleanUpAnswer) : Type 0 where
  pub untagged : tags_of answer.untagged.items ≡ by_bytes planned.untagged.items
  pub pruned : ShowsPlan planned.plan answer.pruned
  pub left : answer.pruned.untagged_left ≡ None

abbrev pub IsPlannedRemovedAnswer : Option PlannedCleanUp → Option CleanUpAnswer → Type 0
IsPlannedRemovedAnswer None None = ⊤
IsPlannedRemovedAnswer None (Some answer) = ⊥
IsPlannedRemovedAnswer (Some planned) None = ⊥
IsPlannedRemovedAnswer (Some planned) (Some answer) = IsPlannedCleanUpAnswer planned answer

-- The answer of a dry run names the planned keys in the order of the plan, and counts them, their bytes
-- (up to the greatest number) and the roots that are held. It names what would be removed.
pub record IsPlanAnswer (planned : Planned) (removed : Option PlannedCleanUp) (answer : PlanAnswer) : Type 0 where
  pub blobs : keys_in answer.blobs.items ≡ keys_before (length planned.keys) planned
  pub planned_is : answer.planned ≡ length planned.keys
  pub bytes : answer.bytes.0 ≡ min (sum_of_sizes answer.blobs.items) (2 ^ 128 - 1)
  pub skipped : answer.skipped ≡ length planned.skipped
  pub prune : IsPlannedRemovedAnswer removed answer.prune

-- the line of a planned key
abbrev pub planned_line : Bor Descriptor → List ℕ
planned_line k = key_text k.now ++ codes "\n"

-- the line of the counts
abbrev pub plan_counts : PlanAnswer → List ℕ
plan_counts a = codes "planned " ++ decimal a.planned ++ codes " bytes " ++ decimal a.bytes.0 ++ codes " skipped " ++ decimal a.skipped ++ codes "\n"

-- the lines of a dry run: each planned key, the counts, and what would be removed
abbrev pub plan_text : PlanAnswer → List ℕ
plan_text a = flat_map planned_line a.blobs.items ++ (plan_counts a ++ removed_text a.prune)
