use Rattle.ocicp.proofs.Done.{both_on_ok}
use Rattle.ocicp.proofs.run.prune.Goals as goal

pub returns : goal.returns
returns g c =
    let dir = c.in_ok-dir.ensures in
    both_on_ok c.run_prune.result _ _ _ _ _ (rw dir at c.run_prune.ensures.pruned) (rw dir at c.run_prune.ensures.planned) (λ pruned planned. record { pruned = pruned; planned = planned })
