use Rattle.std.proofs.Common.{refl}
use Rattle.oci_repair_commands.proofs.run.plan_folder.Goals as goal

pub returns : goal.returns
returns g c = record {
  layout = c.in_ok-layout.layout;
  opened = c.in_ok-layout.ensures;
  task = c.in_ok-task.task;
  task_is = c.in_ok-task.ensures;
  shown = refl;
}
