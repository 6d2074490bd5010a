use Rattle.std.proofs.lemmas.Result.{IfOk-weaker}
use Rattle.oci_query_commands.proofs.Verified.{HasFiles-opened}
use Rattle.oci_repair_commands.proofs.plan.plan.Goals as goal

pub returns-in-Ok : goal.returns-in-Ok
returns-in-Ok g c =
    let layout = c.args.layout.now in
    let planned = rw c.deref.ensures.value at c.in-Ok.ensures.planned in
    IfOk-weaker c.task_of.result _ _ (λ task is. record {
      plan = c.in-Ok.plan;
      planned = λ honest sources opened. planned honest sources opened (c.in_ok-corrupt.ensures (HasFiles-opened (g.D.Dir.device layout.dir) layout.graph layout.tags layout.opened honest opened));
      task_is = is;
    }) c.task_of.ensures
