use Rattle.std.proofs.Common.{inl, inr, refl}
use Rattle.oci_layout_store.specs.Blobs.{stored}
use Rattle.oci_prune.proofs.Settling.{left_unsaved}
use Rattle.oci_tag_commands.proofs.tag.tag_and_save.Goals as goal

pub returns-in-Err-clause-refused : goal.returns-in-Err-clause-refused
returns-in-Err-clause-refused g c = inl (c.in-Err.ensures.refused, refl)

pub returns-in-Err-clause-left : goal.returns-in-Err-clause-left
returns-in-Err-clause-left g c = λ entries tags can.
    let old = c.args.layout.now in
    left_unsaved (g.D.Dir.device old.dir) entries (stored (g.D.Dir.device old.dir).file old.graph) tags old.tags can.lasts

pub returns-in-Err-entry_for_tag-clause-refused : goal.returns-in-Err-entry_for_tag-clause-refused
returns-in-Err-entry_for_tag-clause-refused g c = inr refl

pub returns-in-Err-entry_for_tag-clause-left : goal.returns-in-Err-entry_for_tag-clause-left
returns-in-Err-entry_for_tag-clause-left g c = λ entries tags can.
    let old = c.args.layout.now in
    left_unsaved (g.D.Dir.device old.dir) entries (stored (g.D.Dir.device old.dir).file old.graph) tags old.tags can.lasts

pub returns-in-Err-set_and_save-clause-refused : goal.returns-in-Err-set_and_save-clause-refused
returns-in-Err-set_and_save-clause-refused g c = inr c.in-Err-set_and_save.ensures.refused
