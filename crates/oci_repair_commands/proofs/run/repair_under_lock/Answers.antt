use Rattle.std.proofs.Common.{refl}
use Rattle.oci_repair.proofs.Mended.{firsts, wider}
use Rattle.oci_repair_commands.proofs.Tasks.{all_repaired, all_same, old_or_same}
use Rattle.oci_repair_commands.proofs.run.repair_under_lock.Goals as goal

pub returns : goal.returns
returns g c =
    let dev = g.D.Dir.device in
    let task = c.in_ok-mends.field-0 in
    let keys = task.answer.repaired.items in
    let within = c.in_ok-mends.ensures.task_is.repaired in
    let same = c.in_ok-layout.ensures.same in
    let old = (dev c.args.dir).file in
    let mid = (dev c.repair.new.layout.dir).file in
    let left = (dev c.in_ok-dir.dir).file in
    let repaired = rw (c.deref.ensures.value, same) at c.in_default.ensures.repaired in
    let whole = rw (c.deref.ensures.value, same) at c.in_default.ensures.whole in
    let stays = rw same at c.in_default.ensures.honest in
    let settled = rw c.into_dir.ensures at c.in_ok-dir.ensures in
    record {
      planned = record {
        layout = c.in_ok-layout.layout;
        opened = c.in_ok-layout.ensures;
        task = task;
        task_is = c.in_ok-mends.ensures;
        shown = refl;
      };
      left = c.in_ok-dir.dir;
      repaired = λ honest. all_same mid left keys (settled.files (stays.0 honest)) (all_repaired mid task.mends.items keys (repaired honest) (λ k at. (within k).0 at));
      other = λ honest. old_or_same old mid left keys (settled.files (stays.0 honest)) (wider old mid (firsts task.mends.items) keys (λ k at. (within k).1 at) (whole honest));
    }
