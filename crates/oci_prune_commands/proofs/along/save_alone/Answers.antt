use Rattle.std.proofs.Common.{length, refl}
use Rattle.oci_prune.proofs.Results.{has_index-stays}
use Rattle.oci_prune.proofs.Settling.{can_settle_same, lasts_saved, left_saved}
use Rattle.oci_prune_commands.proofs.along.save_alone.Goals as goal

pub returns-clause-saved : goal.returns-clause-saved
returns-clause-saved g c =
    let device = g.D.Dir.device in
    let old = c.args.layout.now in
    let new = c.save_settled.new.self in
    let saved = c.in_ok-save_settled.ensures in
    let memory = saved.only.memory in
    record {
      index = λ honest. has_index-stays (device new.dir).file (device new.dir).file old.graph new.graph old.tags new.tags old.opened new.opened refl memory.graph memory.tags memory.opened (saved.saved honest);
      other = saved.other;
      lasts = λ entries tags can.
          lasts_saved device old new c.count-count.result saved.only saved.lasts entries tags (can_settle_same device old old (length old.graph) c.count-count.result entries tags refl refl c.count-count.ensures.count can);
    }

pub returns-clause-left : goal.returns-clause-left
returns-clause-left g c = λ entries tags can.
    let old = c.args.layout.now in
    let saved = c.in_ok-save_settled.ensures in
    left_saved g.D.Dir.device old c.save_settled.new.self c.count-count.result saved.only saved.left entries tags
    (can_settle_same g.D.Dir.device old old (length old.graph) c.count-count.result entries tags refl refl c.count-count.ensures.count can)

pub returns-in_err-save_settled-clause-left : goal.returns-in_err-save_settled-clause-left
returns-in_err-save_settled-clause-left g c = λ entries tags can.
    let old = c.args.layout.now in
    let saved = c.in_err-save_settled.ensures in
    left_saved g.D.Dir.device old c.save_settled.new.self c.count-count.result saved.only saved.left entries tags
    (can_settle_same g.D.Dir.device old old (length old.graph) c.count-count.result entries tags refl refl c.count-count.ensures.count can)
