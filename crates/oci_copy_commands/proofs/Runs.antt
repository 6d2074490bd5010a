-- What a run did, from what its steps did.
use Rattle.std.proofs.Common.{◌≡◌, true, false, Some, Result, Ok, Err, refl, sym, subst, ◌∙◌}
use Rattle.std.specs.Prelude.{IfOk, OnOk}
use Rattle.std.proofs.lemmas.Bool.{true≢false}
use Rattle.oci_command_line.specs.declared.changing.CopyWords.{CopyWords}
use Rattle.oci_plan.specs.Plan.{Planned}
use Rattle.oci_copy.specs.Planned.{IsPlanOf}
use Rattle.oci_copy.specs.declared.options.Options.{Options}
use Rattle.oci_dir.specs.Device.{Device}
use Rattle.oci_layout_store.specs.Layout.{LayoutState}
use Rattle.oci_layout_copy.specs.Goal.{patterns_of, Goal, IsPrepared}
use Rattle.oci_layout_copy.specs.Mirror.{is_exact}
use Rattle.oci_copy_commands.specs.Run.{options_of, store_of, Done, DryRun, IsCopyMade, IsCopyPlanned, IsMadeBy, IsMirrorMade, IsPlannedBy}
use Rattle.oci_layout_copy.specs.PlannedMirror.{IsPlannedCleanUp}
use Rattle.oci_selection.specs.Selected.{Selected}
use Rattle.oci_layout_copy.specs.declared.planned.PlannedCleanUp.{PlannedCleanUp}

-- what follows of each success holds if there is one
pub ok_gives : {X E : Type 0} {P : X → Type 0} (r : Result X E) → ((x : X) → r ≡ Ok x → P x) → IfOk r P
ok_gives (Ok x) gives = gives x refl
ok_gives (Err e) gives = tt

-- what follows of the lines that a success printed holds if there is one
pub with_lines : {X E A L P : Type 0} (r : Result X E) → ((L → P) → A) → (L → OnOk r P) → OnOk r A
with_lines (Ok x) gives lines = gives lines
with_lines (Err e) gives lines = tt

-- ---- a copy

-- a copy without `--prune` is the one that the words ask for
pub copy_made_by : {S D : Type 0} (from : S → Device) (to : D → Device) (words : CopyWords) (source : LayoutState S) (selected : Selected) (old new : LayoutState D) (done : Done)
    → words.prunes ≡ false → new ≡ old → IsCopyMade from to words source selected new done → IsMadeBy from to words source selected old done
copy_made_by {S} {D} from to words source selected old new done plain same made =
    record {
      copied = λ _. subst (λ (l : LayoutState D). IsCopyMade from to words source selected l done) same made;
      mirrored = λ prunes. absurd (true≢false (sym prunes ∙ plain));
    }

-- a mirror of a prepared layout with `--prune` is the one that the words ask for
pub mirror_made_by : {S D : Type 0} (from : S → Device) (to : D → Device) (words : CopyWords) (source : LayoutState S) (selected : Selected) (goal : Goal) (old prepared : LayoutState D) (done : Done)
    → words.prunes ≡ true → IsPrepared to (patterns_of words.selection) (is_exact words) (selected.0, selected.1) old prepared goal
    → IsMirrorMade from to words source selected goal prepared done → IsMadeBy from to words source selected old done
mirror_made_by {S} {D} from to words source selected goal old prepared done prunes aim made =
    record {
      copied = λ plain. absurd (true≢false (sym prunes ∙ plain));
      mirrored = λ _. record {
        prepared = prepared;
        goal = goal;
        aim = aim;
        made = made;
      };
    }

-- ---- a dry run

-- a plan of a copy without `--prune` is the one that the words ask for
pub copy_planned_by : {S D : Type 0} (from : S → Device) (to : D → Device) (words : CopyWords) (source : LayoutState S) (selected : Selected) (old new : LayoutState D) (options : Options) (planned : DryRun)
    → words.prunes ≡ false → options ≡ options_of words → new ≡ old → IsCopyPlanned from to options source selected new planned → IsPlannedBy from to words source selected old planned
copy_planned_by {S} {D} from to words source selected old new options planned plain named same is =
    record {
      copied = λ _. subst (λ (l : LayoutState D). IsCopyPlanned from to (options_of words) source selected l planned) same (subst (λ (o : Options). IsCopyPlanned from to o source selected new planned) named is);
      mirrored = λ prunes. absurd (true≢false (sym prunes ∙ plain));
    }

-- a plan of a mirror with `--prune` is the one that the words ask for
pub mirror_planned_by : {S D : Type 0} (from : S → Device) (to : D → Device) (words : CopyWords) (source : LayoutState S) (selected : Selected) (goal : Goal) (old prepared : LayoutState D) (options : Options) (plan : Planned) (removed : PlannedCleanUp)
    → words.prunes ≡ true → options ≡ options_of words → IsPrepared to (patterns_of words.selection) (is_exact words) (selected.0, selected.1) old prepared goal
    → IsPlanOf (store_of from source) options (store_of to prepared) selected.0 plan → IsPlannedCleanUp (to prepared.dir) (store_of from source) (store_of to prepared) plan.keys (is_exact words) goal removed
    → IsPlannedBy from to words source selected old (plan, Some removed)
mirror_planned_by from to words source selected goal old prepared options plan removed prunes named aim is clean_up =
    record {
      copied = λ plain. absurd (true≢false (sym prunes ∙ plain));
      mirrored = λ _. record {
        prepared = prepared;
        goal = goal;
        removed = removed;
        aim = aim;
        plan = subst (λ (o : Options). IsPlanOf (store_of from source) o (store_of to prepared) selected.0 plan) named is;
        is_removed = refl;
        clean_up = clean_up;
      };
    }
