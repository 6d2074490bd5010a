use Rattle.oci_repair_commands.proofs.Tasks.{task_is}
use Rattle.oci_repair_commands.proofs.plan.task_of.Goals as goal

pub returns : goal.returns
returns g c =
    task_is c.args.plan _ c.in_ok-mends.blocked.items
    (rw c.deref.ensures.value at c.in_ok-mends.ensures)
    (rw (c.deref-6.ensures.value, c.in_ok-keys_of.ensures, c.deref-5.ensures.value) at c.in_ok-in_order.ensures.each)
    (rw (c.deref-4.ensures.value, c.in_ok-add_all.ensures, c.deref-3.ensures.value, c.in_ok-lacking.ensures, c.deref-2.ensures.value) at c.in_ok-missing.ensures.each)
    c.in_ok-in_order.ensures.order
    c.in_ok-missing.ensures.order
