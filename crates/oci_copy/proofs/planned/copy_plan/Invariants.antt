use Rattle.oci_copy.proofs.planned.copy_plan.Given as goal

abbrev pub ghosts-run_copy_jobs : goal.ghosts-run_copy_jobs
ghosts-run_copy_jobs g a = record {
  source = g.A.Store.state a.source.now;
  opening = g.D.Store.state a.destination;
  planned = a.plan.now.keys;
}
