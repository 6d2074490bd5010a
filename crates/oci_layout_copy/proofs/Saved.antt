-- The promises of a copy between layouts still hold after its tags are set and it is saved.
use Rattle.std.proofs.Common.{◌≡◌, ◌⊎◌, inl, inr, ℕ, List, Result, Ok, Err, refl, sym, subst, arith}
use Rattle.std.specs.Prelude.{⊤, ◌<◌, ◌≤◌, ◌^◌, ◌-◌, IsOk, IfErr, IfOk, OnOk}
use Rattle.std.proofs.lemmas.Bool.{false≢true}
use Rattle.std.proofs.lemmas.Result.{IfOk-at_ok, on_ok_weaker}
use Rattle.oci_manifest.specs.Descriptor.{Descriptor}
use Rattle.oci_store.specs.Content.{Entry}
use Rattle.oci_store.specs.State.{State}
use Rattle.oci_plan.specs.declared.gathering.Existing.{Existing}
use Rattle.oci_copy.specs.Cause.{IsAnswerByWorkers, RefusedByWorkers}
use Rattle.oci_copy.specs.Copy.{IsCopy, OnlyGrows}
use Rattle.oci_copy.specs.Grown.{HasKnownBytes, SameByDigest}
use Rattle.oci_copy.specs.Report.{IsReport}
use Rattle.oci_copy.specs.declared.fault.CopyFault.{CopyFault}
use Rattle.oci_copy.specs.declared.fault.CopyFault.TheVariants as fault
use Rattle.oci_copy.specs.declared.options.Options.{Options}
use Rattle.oci_copy.specs.declared.report.Report.{Report}
use Rattle.oci_layout_store.specs.declared.fault.LayoutFault.{LayoutFault}
use Rattle.oci_program.specs.declared.fault.ProgramFault.{ProgramFault}
use Rattle.oci_program.specs.declared.fault.ProgramFault.TheVariants as program
use Rattle.oci_layout_copy.specs.Between.{IsTrusted, IsSaved, BringsOnlyMet, BringsOnlyChecked, IsCopiedBetween, HasReached, HoldsWhatCame}
use Rattle.oci_layout_copy.specs.Refusal.{IsRefusedBetween}

-- a consequence for the report of a successful copy holds if the copy and its save both succeeded
pub after_report : {X E F : Type 0} {P Q : X → Type 0} (copied : Result X E) (saved : Result X F) → ((x : X) → P x → Q x) → IfOk saved (λ it. copied ≡ Ok it) → IfOk copied P → IfOk saved Q
after_report {P = P} copied (Ok x) gives same holds = gives x (IfOk-at_ok P same holds)
after_report copied (Err e) gives same holds = same

-- a copy that succeeded, with what came after it, has at most 64 workers
pub workers_after : {X Y F : Type 0} (workers : ℕ) (cause : CopyFault → Type 0) (copied : Result X CopyFault) (done : Result Y F) (report_of : Y → X) → IsAnswerByWorkers workers cause copied → IfOk done (λ it. copied ≡ Ok (report_of it)) → OnOk done (workers ≤ 64)
workers_after workers cause copied (Ok y) report_of answers same = subst (IsAnswerByWorkers workers cause) same answers
workers_after workers cause copied (Err e) report_of answers same = same

-- a copy that succeeded has few enough workers for a cause of its own; a refused one has its cause
pub refused_with : {X : Type 0} (workers : ℕ) (cause : CopyFault → Type 0) → cause fault.Memory → (copied : Result X CopyFault) → IsAnswerByWorkers workers cause copied
    → (e : CopyFault) → (copied ≡ Err e) ⊎ (IsOk copied × (e ≡ fault.Memory)) → RefusedByWorkers workers cause e
refused_with workers cause memory copied answers e (inl same) = (subst (IsAnswerByWorkers workers cause) same answers).1
refused_with workers cause memory (Ok x) within e (inr it) = inr (within, subst cause (sym it.1) memory)
refused_with workers cause memory (Err other) answers e (inr it) = absurd (false≢true it.0)

-- a copy by workers and its save are refused for a cause of the copy, or for one of the save
pub refused_after : {X Y : Type 0} (workers : ℕ) (cause : CopyFault → Type 0) (save after : LayoutFault → Type 0) → cause fault.Memory → ((e : LayoutFault) → save e → after e)
    → (copied : Result X CopyFault) → IsAnswerByWorkers workers cause copied → (answer : Result Y ProgramFault)
    → IfErr answer (IsRefusedBetween (λ e. (copied ≡ Err e) ⊎ (IsOk copied × (e ≡ fault.Memory))) save) → IfErr answer (IsRefusedBetween (RefusedByWorkers workers cause) after)
refused_after workers cause save after memory saves copied answers (Ok y) is = is
refused_after workers cause save after memory saves copied answers (Err (program.Copy e)) is = refused_with workers cause memory copied answers e is
refused_after workers cause save after memory saves copied answers (Err (program.Destination e)) is = saves e is
refused_after workers cause save after memory saves copied answers (Err e) is = is

-- a destination that only grew, and then was saved
module _ {source old copied new : State} {roots : List Descriptor} (alike : SameByDigest source.entries source.entries) (grows : OnlyGrows ⊤ source old roots copied) (saved : IsSaved copied new) where
  -- the premise about bytes after the save gives the premise before it
  known_before : IsTrusted source old new → HasKnownBytes ⊤ source old copied
  known_before trusted =
      let calm = trusted.is_calm in
      let grew = grows.failures in
      let rose = saved.failures in
      let same : copied.failures ≡ old.failures = (let e = calm.0 in omega arith) in
      let less : copied.failures < 2 ^ 64 - 1 = (let e = calm.0 in let l = calm.1 in omega arith) in
      record { is_honest = trusted.is_honest; is_sound = trusted.is_sound; is_calm = (same, less); same_old = λ _. trusted.same; same_source = λ _. alike }

  sound_before : IsTrusted source old new → copied.is_sound
  sound_before trusted = grows.sound (known_before trusted)

  pub sound_after : IsTrusted source old new → new.is_sound
  sound_after trusted = saved.sound (sound_before trusted)

  pub came_after : HoldsWhatCame old.nodes new.nodes
  came_after = rw saved.nodes grows.whole

  pub checked_after : BringsOnlyChecked old.nodes new.nodes
  checked_after = rw saved.nodes grows.checked

  pub met_after : BringsOnlyMet source old.nodes roots new.nodes
  met_after = rw saved.nodes grows.met

  pub report_after : (existing : Existing) (report : Report) → IsReport existing source old roots copied report → IsReport existing source old roots new report
  report_after existing report is = record { planned = is.planned; pushed = is.pushed; gained = rw saved.nodes is.gained; skipped = is.skipped }

  pub copied_after : {options : Options} {report : Report} → IsCopy ⊤ options source old roots copied report → IsCopiedBetween source old roots new
  copied_after copy trusted =
      rw (saved.entries (sound_before trusted)) (copy.content (known_before trusted) (λ k x y at_source at_old. sym (trusted.same k k x y at_source at_old refl)))

  pub reached_after : {options : Options} {report : Report} → IsCopy ⊤ options source old roots copied report → HasReached source old roots new
  reached_after copy = rw saved.nodes copy.reached

  pub files_after : {X E : Type 0} (answer : Result X E) (files : List Entry → Type 0) → OnOk answer (copied.is_sound → files copied.entries) → OnOk answer (IsTrusted source old new → files new.entries)
  files_after answer files there =
      on_ok_weaker {P = copied.is_sound → files copied.entries} {Q = IsTrusted source old new → files new.entries} answer (λ of trusted. rw (saved.entries (sound_before trusted)) (of (sound_before trusted))) there
