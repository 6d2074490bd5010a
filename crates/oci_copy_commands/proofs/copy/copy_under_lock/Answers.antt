use Rattle.std.proofs.lemmas.Result.{IfOk-weaker}
use Rattle.oci_copy_commands.proofs.Runs.{copy_made_by, mirror_made_by}
use Rattle.oci_copy_commands.proofs.copy.copy_under_lock.Goals as goal

pub returns-in-Some : goal.returns-in-Some
returns-in-Some g c =
    let aim = rw c.in-Some.is at c.in_ok-goal.ensures.goal in
    IfOk-weaker c.mirror_and_end.result _ _
    (λ done made. mirror_made_by g.S.Dir.device g.D.Dir.device c.args.words.now c.args.source.now c.args.selected.now c.in-Some.goal c.args.destination c.goal_of.new.destination done aim.0 aim.1 made)
    c.mirror_and_end.ensures

pub returns : goal.returns
returns g c =
    let plain = rw c.in-None.is at c.in_ok-goal.ensures.goal in
    IfOk-weaker c.copy_and_end.result _ _
    (λ done made. copy_made_by g.S.Dir.device g.D.Dir.device c.args.words.now c.args.source.now c.args.selected.now c.args.destination c.goal_of.new.destination done plain (c.goal_of.ensures.same plain) made)
    c.copy_and_end.ensures
