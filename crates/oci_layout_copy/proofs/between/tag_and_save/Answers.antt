use Rattle.std.proofs.Common.{◌≡◌, ◌∙◌}
use Rattle.oci_selection.proofs.Selections.{among_held}
use Rattle.std.specs.Map.{values_of}
use Rattle.oci_copy.specs.declared.fault.CopyFault.{CopyFault}
use Rattle.oci_copy.specs.declared.fault.CopyFault.TheVariants as copy
use Rattle.oci_layout_copy.proofs.Seen.{between_seen}
use Rattle.std.proofs.lemmas.Result.{err_from_is_err_and}
use Rattle.oci_layout_copy.proofs.Settled.{lasts_tagged, left_tagged}
use Rattle.oci_layout_copy.proofs.between.tag_and_save.Goals as goal

pub tag_all-requires-clause-held : goal.tag_all-requires-clause-held
tag_all-requires-clause-held g c = rw c.tags.ensures.tags (among_held c.args.destination.now.graph c.args.selected.now.0 (values_of c.args.selected.now.1) c.requires.held c.tags.ensures.of_roots.rooted)

pub returns-in-Ok-save_settled-clause-brought : goal.returns-in-Ok-save_settled-clause-brought
returns-in-Ok-save_settled-clause-brought g c =
    rw (c.save_settled.ensures.only.memory.opened, c.save_settled.ensures.only.memory.tags, c.bring.ensures.only.tags) (rw (c.entries.ensures.entries, c.tag_all.ensures.opened) at c.in-Ok.ensures.brought)

pub returns-in-Ok-save_settled-clause-left : goal.returns-in-Ok-save_settled-clause-left
returns-in-Ok-save_settled-clause-left g c =
    left_tagged g.D.Dir.device c.args.destination.now c.bring.new.self c.save_settled.new.self c.args.from (c.bring.ensures.only.dir ∙ c.tag_all.ensures.dir) (c.bring.ensures.only.graph ∙ c.tag_all.ensures.graph) c.save_settled.ensures.only.memory.tags
    c.save_settled.ensures.left

pub returns-in-Ok-save_settled-clause-lasts : goal.returns-in-Ok-save_settled-clause-lasts
returns-in-Ok-save_settled-clause-lasts g c =
    lasts_tagged g.D.Dir.device c.args.destination.now c.bring.new.self c.save_settled.new.self c.args.from (c.bring.ensures.only.dir ∙ c.tag_all.ensures.dir) (c.bring.ensures.only.graph ∙ c.tag_all.ensures.graph) c.save_settled.ensures.only.memory.tags
    c.in-Ok-save_settled.ensures.lasts

pub returns-in-Err-save_settled-clause-left : goal.returns-in-Err-save_settled-clause-left
returns-in-Err-save_settled-clause-left g c =
    left_tagged g.D.Dir.device c.args.destination.now c.bring.new.self c.save_settled.new.self c.args.from (c.bring.ensures.only.dir ∙ c.tag_all.ensures.dir) (c.bring.ensures.only.graph ∙ c.tag_all.ensures.graph) c.save_settled.ensures.only.memory.tags
    c.save_settled.ensures.left

pub returns-in_err-check-clause-refused : goal.returns-in_err-check-clause-refused
returns-in_err-check-clause-refused g c =
    let dir = g.D.Dir.device c.args.destination.now.dir in
    let p = err_from_is_err_and c.from_residual.result c.from_residual.ensures.1 in
    rw (p.1, p.2) (between_seen dir c.args.seen.now.0 (λ (e : CopyFault). e ≡ copy.Memory) dir.failures _ (rw c.dir.ensures at c.in_err-check.ensures.cause))
