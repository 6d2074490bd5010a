use Rattle.std.proofs.Common.{None, refl}
use Rattle.oci_copy_commands.proofs.Runs.{copy_planned_by, mirror_planned_by}
use Rattle.oci_copy_commands.proofs.dry_run.plan_into.Goals as goal

pub returns-in-Some : goal.returns-in-Some
returns-in-Some g c =
    let aim = rw c.in-Some.is at c.in_ok-goal.ensures.goal in
    let planned = c.in_ok-plan-in-Some.ensures in
    mirror_planned_by g.S.Dir.device g.D.Dir.device c.args.words.now c.args.source.now c.args.selected.now c.in-Some.goal c.args.destination c.goal_of.new.destination c.options_of-options.result c.in_ok-plan-in-Some.plan c.in_ok-plan-in-Some.clean_up aim.0 c.options_of-options.ensures aim.1 planned.plan (rw c.is_exact-exact.ensures at planned.planned)

pub returns : goal.returns
returns g c =
    let plain = rw c.in-None.is at c.in_ok-goal.ensures.goal in
    copy_planned_by g.S.Dir.device g.D.Dir.device c.args.words.now c.args.source.now c.args.selected.now c.args.destination c.goal_of.new.destination c.options_of-options.result (c.in_ok-plan-in-None.plan, None) plain c.options_of-options.ensures (c.goal_of.ensures.same plain)
    (record { plan = rw c.roots.ensures at c.in_ok-plan-in-None.ensures.plan; kept = refl })
