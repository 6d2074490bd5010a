use Rattle.std.proofs.Common.{length, ◌∙◌}
use Rattle.oci_layout_store.specs.Blobs.{stored}
use Rattle.oci_tag_commands.proofs.Tagging.{lasts_set, left_same, left_set, name_fault}
use Rattle.oci_tag_commands.proofs.tag.set_and_save.Goals as goal

pub returns-in-Err-clause-refused : goal.returns-in-Err-clause-refused
returns-in-Err-clause-refused g c = (name_fault c.args.layout.now.graph c.args.key.now c.args.tag.now c.in-Err.fault c.requires.held c.in-Err.ensures.answer, c.in-Err.ensures.untouched)

pub returns-in-Err-clause-left : goal.returns-in-Err-clause-left
returns-in-Err-clause-left g c = λ entries tags can.
    let old = c.args.layout.now in
    let new = c.tag.new.self in
    left_same g.D.Dir.device old new (length old.graph) entries (stored (g.D.Dir.device new.dir).file new.graph) tags new.tags c.tag.ensures.only.dir can

pub returns-in-Err-bring-clause-left : goal.returns-in-Err-bring-clause-left
returns-in-Err-bring-clause-left g c = λ entries tags can.
    let old = c.args.layout.now in
    let new = c.bring.new.self in
    left_same g.D.Dir.device old new (length old.graph) entries (stored (g.D.Dir.device new.dir).file new.graph) tags new.tags (c.bring.ensures.only.dir ∙ c.tag.ensures.only.dir) can

pub returns-in-Ok-save_settled-clause-brought : goal.returns-in-Ok-save_settled-clause-brought
returns-in-Ok-save_settled-clause-brought g c =
    rw (c.save_settled.ensures.only.memory.opened, c.save_settled.ensures.only.memory.tags, c.bring.ensures.only.tags) (rw (c.tag.ensures.only.opened) at c.in-Ok-bring.ensures.brought)

pub returns-in-Ok-save_settled-clause-left : goal.returns-in-Ok-save_settled-clause-left
returns-in-Ok-save_settled-clause-left g c =
    left_set g.D.Dir.device c.args.layout.now c.tag.new.self c.bring.new.self c.save_settled.new.self c.count-count.result c.tag.ensures.only c.bring.ensures.only c.count-count.ensures.count c.in-Ok-save_settled.ensures.only c.in-Ok-save_settled.ensures.left

pub returns-in-Err-save_settled-clause-left : goal.returns-in-Err-save_settled-clause-left
returns-in-Err-save_settled-clause-left g c =
    left_set g.D.Dir.device c.args.layout.now c.tag.new.self c.bring.new.self c.save_settled.new.self c.count-count.result c.tag.ensures.only c.bring.ensures.only c.count-count.ensures.count c.in-Err-save_settled.ensures.only c.in-Err-save_settled.ensures.left

pub returns-in-Ok-save_settled-clause-lasts : goal.returns-in-Ok-save_settled-clause-lasts
returns-in-Ok-save_settled-clause-lasts g c =
    lasts_set g.D.Dir.device c.args.layout.now c.tag.new.self c.bring.new.self c.save_settled.new.self c.count-count.result c.tag.ensures.only c.bring.ensures.only c.count-count.ensures.count c.in-Ok-save_settled.ensures.only c.in-Ok-save_settled.ensures.lasts
