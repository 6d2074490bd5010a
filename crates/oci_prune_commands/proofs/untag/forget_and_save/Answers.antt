use Rattle.std.proofs.Common.{length, ap, ◌∙◌}
use Rattle.oci_prune.proofs.Settling.{can_settle_same, lasts_saved, left_saved}
use Rattle.oci_prune_commands.proofs.untag.forget_and_save.Goals as goal

pub returns-in-Err-clause-left : goal.returns-in-Err-clause-left
returns-in-Err-clause-left g c = λ entries tags can.
    let old = c.args.layout.now in
    let before = c.forget.new.self in
    let only = c.forget.ensures.only in
    let count = c.count-count.result in
    left_saved g.D.Dir.device before c.save_settled.new.self count c.in-Err.ensures.only c.in-Err.ensures.left entries tags
    (can_settle_same g.D.Dir.device old before (length old.graph) count entries tags only.dir only.graph (c.count-count.ensures.count ∙ ap length only.graph) can)

pub returns-clause-left : goal.returns-clause-left
returns-clause-left g c = λ entries tags can.
    let old = c.args.layout.now in
    let before = c.forget.new.self in
    let only = c.forget.ensures.only in
    let count = c.count-count.result in
    left_saved g.D.Dir.device before c.save_settled.new.self count c.in_default-save_settled.ensures.only c.in_default-save_settled.ensures.left entries tags
    (can_settle_same g.D.Dir.device old before (length old.graph) count entries tags only.dir only.graph (c.count-count.ensures.count ∙ ap length only.graph) can)

pub returns-clause-lasts : goal.returns-clause-lasts
returns-clause-lasts g c = λ entries tags can.
    let old = c.args.layout.now in
    let before = c.forget.new.self in
    let only = c.forget.ensures.only in
    let count = c.count-count.result in
    lasts_saved g.D.Dir.device before c.save_settled.new.self count c.in_default-save_settled.ensures.only c.in_default-save_settled.ensures.lasts entries tags
    (can_settle_same g.D.Dir.device old before (length old.graph) count entries tags only.dir only.graph (c.count-count.ensures.count ∙ ap length only.graph) can)
