use Rattle.std.proofs.Common.{◌≡◌, ◌+◌, ◌-◌, ℕ, List, Option, take, vec_len, ap, ◌∙◌, arith}
use Rattle.std.proofs.lemmas.List.{take-take}
use Rattle.oci_pool.specs.declared.fault.PoolFault.{PoolFault}
use Rattle.oci_pool.proofs.Faults.{way_more}
use Rattle.oci_pool.proofs.running.merging.merge_results.Goals as goal

pub loop-worker-preserved : goal.loop-worker-preserved
loop-worker-preserved g c =
    let less : vec_len c.pop.new.self + 1 ≡ vec_len c.loop-worker.workers = c.in-Some.ensures.cases in
    let fewer : vec_len c.loop-worker.workers - 1 ≡ vec_len c.pop.new.self = omega (arith, less) in
    record {
      reported = c.merge_worker-reported.ensures.fault;
      front = c.pop.ensures.rest ∙ ap (λ (n : ℕ). take n c.loop-worker.workers.items) fewer
          ∙ ap (λ (xs : List (Option (PoolFault g.row.J-Fault.Denot))). take (vec_len c.pop.new.self) xs) c.loop-worker.invariant.front
          ∙ take-take (vec_len c.pop.new.self) (vec_len c.loop-worker.workers) c.args.workers.items (omega (arith, less));
      few = omega (arith, less, c.loop-worker.invariant.few);
      over = way_more (λ (x : Option (PoolFault g.row.J-Fault.Denot)). x) c.args.workers.items c.loop-worker.workers.items (vec_len c.args.workers) (vec_len c.loop-worker.workers) (vec_len c.pop.new.self) c.in-Some.worker c.loop-worker.reported c.merge_worker-reported.result
          less c.loop-worker.invariant.front c.in-Some.ensures.value c.loop-worker.invariant.over c.merge_worker-reported.ensures.over_a c.merge_worker-reported.ensures.over_b;
    }
