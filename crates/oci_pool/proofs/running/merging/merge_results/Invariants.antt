use Rattle.std.proofs.Common.{ℕ, ◌≡◌, ◌<◌, ◌≤◌, get_or, take, vec_len}
use Rattle.oci_pool.specs.Workers.{MayCome, GivesWay}
use Rattle.oci_pool.proofs.running.merging.merge_results.Given as goal

abbrev pub invariant-loop-worker : goal.invariant-loop-worker
invariant-loop-worker g l = record {
  reported : MayCome g.T.RunStart.count g.T.RunStart.fails l.reported;
  front : l.workers.items ≡ take (vec_len l.workers) l.initial.workers.items;
  few : vec_len l.workers ≤ vec_len l.initial.workers;
  over : (i : ℕ) (d : _) → vec_len l.workers ≤ i → i < vec_len l.initial.workers → GivesWay (get_or l.initial.workers.items i d) l.reported;
}

abbrev pub decreases-loop-worker : goal.decreases-loop-worker
decreases-loop-worker g l = vec_len l.workers
