use Rattle.std.proofs.Common.{inl, inr}
use Rattle.std.proofs.lemmas.Result.{err_from_is_err_and}
use Rattle.oci_copy_commands.proofs.behind.LeftBehind.of.Goals as goal

pub returns-clause-left : goal.returns-clause-left
returns-clause-left g c = record {
  attached = c.in_ok-attached.ensures.attached;
  asked = c.in_ok-attached.ensures.asked;
  untagged = c.in_ok-untagged.ensures.untagged;
  picked = c.in_ok-untagged.ensures.picked;
  passed = rw c.roots.ensures at c.in_ok-passed.ensures.passed;
}

pub returns-in_err-attached-clause-cause : goal.returns-in_err-attached-clause-cause
returns-in_err-attached-clause-cause g c =
    let p = err_from_is_err_and c.from_residual.result c.from_residual.ensures.1 in
    rw (p.1, p.2) (inl c.in_err-attached.ensures.cause)

pub returns-in_err-untagged-clause-cause : goal.returns-in_err-untagged-clause-cause
returns-in_err-untagged-clause-cause g c =
    let p = err_from_is_err_and c.from_residual-in_err-untagged.result c.from_residual-in_err-untagged.ensures.1 in
    rw (p.1, p.2) (inl c.in_err-untagged.ensures.cause)

pub returns-in_err-passed-clause-cause : goal.returns-in_err-passed-clause-cause
returns-in_err-passed-clause-cause g c =
    let p = err_from_is_err_and c.from_residual-in_err-passed.result c.from_residual-in_err-passed.ensures.1 in
    rw (p.1, p.2) (inr c.in_err-passed.ensures.cause)
