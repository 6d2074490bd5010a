use Rattle.std.proofs.Common.{sym}
use Rattle.ocicp.proofs.Done.{both_if_ok}
use Rattle.ocicp.proofs.run.repair.Goals as goal

pub returns : goal.returns
returns g c =
    let dir = c.in_ok-dir.ensures in
    both_if_ok c.run_repair.result _ _ _ _ _ (rw dir at c.run_repair.ensures.repaired) (rw dir at c.run_repair.ensures.planned) (λ outcome repaired planned. record { sources = c.deref.result.now; opened = rw (sym c.deref.ensures.value) at c.in_ok-sources.ensures; repaired = repaired; planned = planned })
