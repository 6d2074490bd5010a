-- The statuses of runs whose command line is valid.
use Rattle.std.proofs.Common.{◌≡◌, ◌⊎◌, inl, inr, ℕ, Bool, true, false, cond, refl, ◌∙◌}
use Rattle.std.specs.Prelude.{Result, Ok, Err, IfOk, IfErr}
use Rattle.oci_program.specs.Status.{is_memory, status_of_done, IsRefusalStatus}
use Rattle.oci_program.specs.declared.answer.Form.{Form}
use Rattle.oci_program.specs.declared.answer.Form.TheVariants as form
use Rattle.oci_program.specs.declared.fault.ProgramFault.{ProgramFault}
use Rattle.oci_program.specs.declared.outcome.Outcome.{Outcome}
use Rattle.oci_program.specs.declared.outcome.Outcome.TheVariants as outcome
use Rattle.ocicp.specs.Run.{IsCommandStatus}

one_of_two : (b : Bool) → ◌≡◌ {A = ℕ} (cond b 3 1) 1 ⊎ ◌≡◌ {A = ℕ} (cond b 3 1) 3
one_of_two true = inr refl
one_of_two false = inl refl

through : (s t : ℕ) → s ≡ t → (t ≡ 1) ⊎ (t ≡ 3) → (s ≡ 1) ⊎ (s ≡ 3)
through s t same (inl one) = inl (same ∙ one)
through s t same (inr three) = inr (same ∙ three)

-- a refused run ends with 1 or 3
refused_status : (f : Form) (e : ProgramFault) (s : ℕ) → IsRefusalStatus f e s → (s ≡ 1) ⊎ (s ≡ 3)
refused_status form.Lines e s h = through s (cond (is_memory e) 3 1) h (one_of_two (is_memory e))
refused_status form.Json e s (inl h) = through s (cond (is_memory e) 3 1) h (one_of_two (is_memory e))
refused_status form.Json e s (inr h) = inr h

-- one that was not refused ends with 0 or 1, or as a refused one if its output was not flushed
done_status : (o : Outcome) (s : ℕ) → (s ≡ status_of_done o) ⊎ ((s ≡ 1) ⊎ (s ≡ 3)) → IsCommandStatus s
done_status outcome.Good s (inl h) = inl h
done_status outcome.Faulty s (inl h) = inr (inl h)
done_status outcome.Good s (inr h) = inr h
done_status outcome.Faulty s (inr h) = inr h

-- whatever the command did, it ends with 0, 1 or 3
pub command_status : (done : Result Outcome ProgramFault) (f : Form) (s : ℕ) → IfOk done (λ (o : Outcome). (s ≡ status_of_done o) ⊎ ((s ≡ 1) ⊎ (s ≡ 3))) → IfErr done (λ (e : ProgramFault). IsRefusalStatus f e s) → IsCommandStatus s
command_status (Ok o) f s ok err = done_status o s ok
command_status (Err e) f s ok err = inr (refused_status f e s err)
