use Rattle.std.proofs.Common.{length}
use Rattle.oci_pool.proofs.running.run.Given as goal

abbrev pub ghosts-run_from : goal.ghosts-run_from
ghosts-run_from g a = record {
  workers = a.workers;
  count = length a.order.now.lists;
  answers = g.J.Job.answers a.job.now;
  fails = g.J.Job.fails a.job.now;
}
