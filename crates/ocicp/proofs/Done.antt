-- What is said of a command that was done, in two cases, and of a query that was answered.
use Rattle.std.proofs.Common.{◌≡◌, ◌+◌, ◌<◌, true, List, [], ◌∷◌, ◌++◌, ℕ, length, take, get_or, sym, subst, Option, Some, Result, Ok, Err}
use Rattle.std.proofs.lemmas.List.{take_more}
use Rattle.std.specs.Borrow.{Bor}
use Rattle.std.specs.Prelude.{IfOk, OnOk}
use Rattle.oci_command_line.specs.declared.request.Query.{Query}
use Rattle.oci_dir.specs.Device.{Device}
use Rattle.oci_program.specs.declared.answer.Form.{Form}
use Rattle.oci_program.specs.declared.answer.Form.TheVariants as form
use Rattle.oci_program.specs.declared.outcome.Outcome.{Outcome}
use Rattle.oci_query_commands.specs.Answered.{is_of_all, IsReadable}
use Rattle.oci_query_commands.specs.Printed.{PrintsAnswerOf}
use Rattle.oci_query_commands.specs.Verified.{verified_reference, IsFaulty, IsFaultyVerify, IsGoodVerify, IsVerified, IsVerifiedBelow}
use Rattle.oci_query_commands.specs.Written.{is_cat}
use Rattle.oci_repair.specs.declared.source.RepairSource.{RepairSource}
use Rattle.ocicp.specs.Run.{AreSourcesAt, IsAnswered, IsSourceAt}

-- of a success, two implications give what follows from both
pub both_on_ok : {T E : Type 0} (r : Result T E) (A B P Q R : Type 0) → (A → OnOk r P) → (B → OnOk r Q) → ((A → P) → (B → Q) → R) → OnOk r R
both_on_ok (Ok x) A B P Q R first second both = both first second
both_on_ok (Err e) A B P Q R first second both = tt

-- and of its outcome
pub both_if_ok : {T E : Type 0} (r : Result T E) (A B : Type 0) (P Q R : T → Type 0) → (A → IfOk r P) → (B → IfOk r Q) → ((x : T) → (A → P x) → (B → Q x) → R x) → IfOk r R
both_if_ok (Ok x) A B P Q R first second both = both x first second
both_if_ok (Err e) A B P Q R first second both = tt

-- one more source was opened
pub sources_more : {A : Type 0} (paths : List (Bor (List ℕ))) (sources : List (RepairSource (List ℕ × ℕ) A)) (p : Bor (List ℕ)) (s : RepairSource (List ℕ × ℕ) A) → AreSourcesAt paths sources → IsSourceAt p.now s
    → AreSourcesAt (paths ++ p ∷ []) (sources ++ s ∷ [])
sources_more [] [] p s opened at = (at, tt)
sources_more [] (x ∷ xs) p s opened at = absurd opened
sources_more (q ∷ qs) [] p s opened at = absurd opened
sources_more (q ∷ qs) (x ∷ xs) p s opened at = (opened.0, sources_more qs xs p s opened.1 at)

pub sources_taken : {A : Type 0} (paths : List (Bor (List ℕ))) (i : ℕ) (d : Bor (List ℕ)) (sources more : List (RepairSource (List ℕ × ℕ) A)) (s : RepairSource (List ℕ × ℕ) A) → i < length paths → AreSourcesAt (take i paths) sources
    → IsSourceAt (get_or paths i d).now s → more ≡ sources ++ s ∷ [] → AreSourcesAt (take (i + 1) paths) more
sources_taken {A} paths i d sources more s lt opened at is =
    subst (λ (ss : List (RepairSource (List ℕ × ℕ) A)). AreSourcesAt (take (i + 1) paths) ss) (sym is)
    (subst (λ (ps : List (Bor (List ℕ))). AreSourcesAt ps (sources ++ s ∷ [])) (sym (take_more paths i d lt)) (sources_more (take i paths) sources (get_or paths i d) s opened at))

-- a query that succeeds was answered
pub answered_on_ok : {E : Type 0} (r : Result Outcome E) (dir : Device) (query : Query) (printed : Form) (old new : Option (List ℕ)) → IfOk r (λ (o : Outcome). IsGoodVerify query o → dir.is_honest → IsVerified dir)
    → IfOk r (λ (o : Outcome). IsFaultyVerify query o → dir.is_honest → IsFaulty dir)
    → IfOk r (λ (o : Outcome). (reference : List ℕ) → verified_reference query ≡ Some reference → dir.is_honest → IsVerifiedBelow dir reference o) → OnOk r (is_of_all query ≡ true → dir.is_honest → IsReadable dir) → (printed ≡ form.Lines → OnOk r (dir.is_honest → PrintsAnswerOf dir query old new))
    → OnOk r (is_cat query ≡ true → dir.is_honest → PrintsAnswerOf dir query old new) → IfOk r (λ (o : Outcome). IsAnswered dir query printed old new o)
answered_on_ok (Ok o) dir query printed old new verified faulty below whole shown written = record { verified = verified; faulty = faulty; below = below; whole = whole; shown = shown; written = written }
answered_on_ok (Err e) dir query printed old new verified faulty below whole shown written = tt
