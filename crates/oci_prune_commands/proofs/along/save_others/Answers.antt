use Rattle.std.proofs.Common.{length, inl, refl, sym, ap, subst}
use Rattle.std.proofs.lemmas.Result.{err_from_is_err_and}
use Rattle.oci_dir.specs.Device.{Touches}
use Rattle.oci_layout_store.specs.Blobs.{stored}
use Rattle.oci_layout_store.specs.Index.{index_file}
use Rattle.oci_layout_store.specs.Lasts.{Lasts}
use Rattle.oci_prune.proofs.Leaving.{closed_left}
use Rattle.oci_prune.proofs.Settling.{can_settle_kept, left_unsaved}
use Rattle.oci_prune_commands.proofs.Untagging.{only_kept_same, only_unsaved, saved_kept}
use Rattle.oci_prune_commands.proofs.along.save_others.Goals as goal

pub returns-clause-drops : goal.returns-clause-drops
returns-clause-drops g c = record {
  only = only_kept_same c.args.kept.now c.args.layout.now c.drop_others.new.layout c.save_alone.new.layout c.in_ok-drop_others.ensures.dropped c.in_ok-save_alone.ensures.memory;
  gone = c.in_ok-belonged.ensures;
}

pub returns-clause-saved : goal.returns-clause-saved
returns-clause-saved g c =
    let old = c.args.layout.now in
    let dropped = c.in_ok-drop_others.ensures in
    saved_kept g.D.Dir.device old c.drop_others.new.layout c.save_alone.new.layout c.args.kept.now dropped.dir dropped.dropped dropped.sound
    (closed_left old.graph c.requires.0 c.args.kept.now c.count.ensures.distinct c.requires.1) c.in_ok-save_alone.ensures.saved

pub returns-clause-other : goal.returns-clause-other
returns-clause-other g c =
    let device = g.D.Dir.device in
    let new = c.save_alone.new.layout in
    subst (λ (d : g.row.D.Denot). (device d).is_honest → Touches (device d).file (device new.dir).file index_file) c.in_ok-drop_others.ensures.dir c.in_ok-save_alone.ensures.other

pub returns-in_err-save_alone-clause-other : goal.returns-in_err-save_alone-clause-other
returns-in_err-save_alone-clause-other g c =
    let device = g.D.Dir.device in
    let new = c.save_alone.new.layout in
    subst (λ (d : g.row.D.Denot). (device d).is_honest → Touches (device d).file (device new.dir).file index_file) c.in_ok-drop_others.ensures.dir c.in_err-save_alone.ensures.other

pub returns-in_err-drop_others-clause-other : goal.returns-in_err-drop_others-clause-other
returns-in_err-drop_others-clause-other g c = λ honest q apart. ap (λ (d : g.row.D.Denot). (g.D.Dir.device d).file q) c.in_err-drop_others.ensures.dir

pub returns-in_err-belonged-clause-unsaved : goal.returns-in_err-belonged-clause-unsaved
returns-in_err-belonged-clause-unsaved g c =
    let p = err_from_is_err_and c.from_residual.result c.from_residual.ensures.1 in
    rw (p.1, p.2) (inl (record { graph = refl; tags = refl; opened = refl }))

pub returns-in_err-save_alone-clause-unsaved : goal.returns-in_err-save_alone-clause-unsaved
returns-in_err-save_alone-clause-unsaved g c =
    let old = c.args.layout.now in
    let new = c.save_alone.new.layout in
    let p = err_from_is_err_and c.from_residual-in_err-save_alone.result c.from_residual-in_err-save_alone.ensures.1 in
    rw (p.1, p.2) (only_unsaved c.args.kept.now old new c.in_err-save_alone.field-0.0
    (only_kept_same c.args.kept.now old c.drop_others.new.layout new c.in_ok-drop_others.ensures.dropped c.in_err-save_alone.ensures.memory))

pub returns-clause-left : goal.returns-clause-left
returns-clause-left g c = λ entries tags can.
    let old = c.args.layout.now in
    let mid = c.drop_others.new.layout in
    let dropped = c.in_ok-drop_others.ensures in
    c.in_ok-save_alone.ensures.left entries tags
    (can_settle_kept g.D.Dir.device old mid c.args.kept.now (length mid.graph) entries tags dropped.dir dropped.dropped.graph refl dropped.sound (closed_left old.graph c.requires.0 c.args.kept.now c.count.ensures.distinct c.requires.1 can.closed) can)

pub returns-in_err-save_alone-clause-left : goal.returns-in_err-save_alone-clause-left
returns-in_err-save_alone-clause-left g c = λ entries tags can.
    let old = c.args.layout.now in
    let mid = c.drop_others.new.layout in
    let dropped = c.in_ok-drop_others.ensures in
    c.in_err-save_alone.ensures.left entries tags
    (can_settle_kept g.D.Dir.device old mid c.args.kept.now (length mid.graph) entries tags dropped.dir dropped.dropped.graph refl dropped.sound (closed_left old.graph c.requires.0 c.args.kept.now c.count.ensures.distinct c.requires.1 can.closed) can)

pub returns-in_err-drop_others-clause-left : goal.returns-in_err-drop_others-clause-left
returns-in_err-drop_others-clause-left g c = λ entries tags can.
    let new = c.drop_others.new.layout in
    left_unsaved (g.D.Dir.device new.dir) entries (stored (g.D.Dir.device new.dir).file new.graph) tags new.tags (subst (λ (d : g.row.D.Denot). Lasts (g.D.Dir.device d) entries tags) (sym c.in_err-drop_others.ensures.dir) can.lasts)

pub returns-in_err-belonged-clause-left : goal.returns-in_err-belonged-clause-left
returns-in_err-belonged-clause-left g c = λ entries tags can.
    let old = c.args.layout.now in
    left_unsaved (g.D.Dir.device old.dir) entries (stored (g.D.Dir.device old.dir).file old.graph) tags old.tags can.lasts
