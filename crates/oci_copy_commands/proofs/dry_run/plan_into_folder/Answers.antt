use Rattle.std.proofs.Common.{inl}
use Rattle.std.proofs.lemmas.Result.{IfOk-weaker}
use Rattle.oci_copy_commands.proofs.dry_run.plan_into_folder.Goals as goal

pub returns-in-Ok : goal.returns-in-Ok
returns-in-Ok g c =
    let opened = c.in-Ok.ensures in
    IfOk-weaker c.plan_into.result _ _
    (λ planned is. inl (record { old = c.in-Ok.destination; opened = record { same = opened.same; opened = opened.opened }; planned_is = is }))
    c.plan_into.ensures
