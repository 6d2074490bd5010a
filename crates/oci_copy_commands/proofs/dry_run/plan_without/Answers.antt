use Rattle.std.proofs.lemmas.Result.{IfOk-weaker}
use Rattle.oci_copy_commands.proofs.dry_run.plan_without.Goals as goal

pub returns : goal.returns
returns g c =
    IfOk-weaker c.plan_into.result _ _
    (λ planned is. record { empty = c.in_ok-empty.empty; absent = c.requires.absent; graph = c.in_ok-empty.ensures.graph; tags = c.in_ok-empty.ensures.tags; planned_is = is })
    c.plan_into.ensures
