use Rattle.std.proofs.Common.{length, refl, sym, ap, subst, ◌∙◌}
use Rattle.std.proofs.lemmas.Result.{err_from_is_err_and}
use Rattle.oci_layout_store.specs.Blobs.{stored}
use Rattle.oci_layout_store.specs.Entries.{entry_keys}
use Rattle.oci_layout_store.specs.Lasts.{Lasts}
use Rattle.oci_prune.proofs.Settling.{can_settle_same, left_unsaved}
use Rattle.oci_prune_commands.proofs.Untagging.{loses_tag, refused_untag, same_untagged}
use Rattle.oci_prune_commands.proofs.untag.untag_and_save.Goals as goal

pub returns-in_err-going-clause-left : goal.returns-in_err-going-clause-left
returns-in_err-going-clause-left g c = λ entries tags can.
    let old = c.args.layout.now in
    left_unsaved (g.D.Dir.device old.dir) entries (stored (g.D.Dir.device old.dir).file old.graph) tags old.tags can.lasts

pub returns-in-Err-clause-left : goal.returns-in-Err-clause-left
returns-in-Err-clause-left g c = λ entries tags can.
    let new = c.untag.new.self in
    left_unsaved (g.D.Dir.device new.dir) entries (stored (g.D.Dir.device new.dir).file new.graph) tags new.tags (subst (λ (d : g.row.D.Denot). Lasts (g.D.Dir.device d) entries tags) (sym c.untag.ensures.only.dir) can.lasts)

pub returns-clause-left : goal.returns-clause-left
returns-clause-left g c = λ entries tags can.
    let old = c.args.layout.now in
    let mid = c.untag.new.self in
    let only = c.untag.ensures.only in
    c.in_ok-belonged.ensures.left entries tags (can_settle_same g.D.Dir.device old mid (length old.graph) (length mid.graph) entries tags only.dir only.graph (ap length only.graph) can)

pub returns-in_err-belonged-clause-left : goal.returns-in_err-belonged-clause-left
returns-in_err-belonged-clause-left g c = λ entries tags can.
    let old = c.args.layout.now in
    let mid = c.untag.new.self in
    let only = c.untag.ensures.only in
    c.in_err-belonged.ensures.left entries tags (can_settle_same g.D.Dir.device old mid (length old.graph) (length mid.graph) entries tags only.dir only.graph (ap length only.graph) can)

pub returns-in_err-belonged-clause-refused : goal.returns-in_err-belonged-clause-refused
returns-in_err-belonged-clause-refused g c =
    let p = err_from_is_err_and c.from_residual-in_err-belonged.result c.from_residual-in_err-belonged.ensures.1 in
    let same = same_untagged c.args.tag.now c.args.layout.now c.untag.new.self c.untag.ensures.only c.in-Ok.ensures.untagged in
    let keys = c.deref.ensures.value ∙ c.in_ok-going.ensures ∙ ap entry_keys c.requires in
    rw (p.1, p.2) (refused_untag g.D.Dir.device c.args.tag.now c.args.layout.now c.untag.new.self c.save_without.new.layout c.deref.result.now c.in_err-belonged.field-0.0 same keys c.in_err-belonged.ensures.refused)
