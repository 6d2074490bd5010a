use Rattle.std.proofs.Common.{sym, ◌∙◌}
use Rattle.std.proofs.lemmas.Option.{none-some}
use Rattle.oci_copy.proofs.copy_jobs.run_copy_jobs.Goals as goal
use Rattle.oci_copy.proofs.copy_jobs.run_copy_jobs.Goals.{in-Ok, in-Err}

pub returns-clause-cause : goal.returns-clause-cause
returns-clause-cause g c = elim c.match-run.branch [
  | in-Ok w ↦ absurd (none-some c.in-Some.fault (sym w.fault-is ∙ c.in-Some.is))
  | in-Err w ↦ rw (sym w.fault-is ∙ c.in-Some.is) at w.reported-fault.ensures.cause
]
