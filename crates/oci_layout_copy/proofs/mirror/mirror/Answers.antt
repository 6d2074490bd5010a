use denote.Exit.{no}
use denote.Param.{param}
use denote.Param.Send.{param_send, param_sync, arg_send, arg_sync}
use Rattle.std.proofs.Common.{inl, refl}
use Rattle.std.proofs.lemmas.Result.{on_ok_weaker}
use Rattle.std.specs.Map.{values_of}
use Rattle.oci_copy.specs.Grown.{BeginsWith}
use Rattle.oci_layout_store.specs.Meaning.{meaning}
use Rattle.oci_layout_store.proofs.Crosses.{layout_send, layout_sync}
use Rattle.oci_layout_store.proofs.Law.{keys_of_one_digest}
use Rattle.oci_layout_copy.specs.Mirror.{KeepsContents}
use Rattle.oci_layout_copy.specs.declared.copied.Copied.{Copied}
use Rattle.oci_copy.proofs.Roots.{on_ok_from}
use Rattle.oci_layout_copy.proofs.Goals.{goal_held, some_stay}
use Rattle.oci_layout_copy.proofs.Mirrored.{both_give, contents_after, err_gives, held_stay, mirrored, reached_kept, report_gives}
use Rattle.oci_layout_copy.proofs.Refusals.{after_refused, mirror_refused}
use Rattle.oci_layout_copy.proofs.Saved.{workers_after}
use Rattle.oci_layout_copy.proofs.Seen.{or_seen}
use Rattle.oci_layout_copy.proofs.Cleaning.{lasts_mirrored, left_mirrored}
use Rattle.oci_layout_copy.proofs.mirror.mirror.Goals as goal

pub returns-clause-workers : goal.returns-clause-workers
returns-clause-workers g c =
    let left = c.copy_plan-destination in
    workers_after c.args.options.now.workers _ left.result.1 c.finish.result.1 (λ (done : Copied). done.report) left.ensures.refused c.finish.ensures.report

pub returns-clause-brought : goal.returns-clause-brought
returns-clause-brought g c = rw c.take_index-index.ensures.taken at c.finish.ensures.brought

pub returns-clause-pruned : goal.returns-clause-pruned
returns-clause-pruned g c =
    let left = c.copy_plan-destination in
    let only = c.take_index-index.ensures.only in
    let grows = rw (c.roots-roots.ensures, only.dir, only.graph, only.tags) at left.ensures.grows in
    report_gives _ left.result.1 c.finish.result.1 (λ (done : Copied). done.report)
    (λ done copy cleaned. mirrored g.D.Dir.device c.args.options.now.existing c.args.is_exact (meaning (g.S.Dir.device c.args.source.now.dir) c.args.source.now.graph c.args.source.now.tags) c.args.selected.now.0 c.args.goal.now c.args.destination left.result.0 c.finish.result.0 done
    (rw only.tags at left.ensures.spared.tags) grows.met copy.graph copy.reported cleaned)
    c.finish.ensures.report (rw (c.roots-roots.ensures, only.dir, only.graph, only.tags) at left.ensures.copied) c.finish.ensures.pruned

pub returns-clause-only : goal.returns-clause-only
returns-clause-only g c = on_ok_weaker c.finish.result.1 (λ only exact. only exact (rw c.take_index-index.ensures.taken c.requires.fits.named)) c.finish.ensures.only

pub returns-clause-reached : goal.returns-clause-reached
returns-clause-reached g c =
    let from = c.args.source.now in
    let to = c.args.destination in
    let left = c.copy_plan-destination in
    let only = c.take_index-index.ensures.only in
    let new = c.finish.result.0 in
    let source = meaning (g.S.Dir.device from.dir) from.graph from.tags in
    let old = meaning (g.D.Dir.device to.dir) to.graph to.tags in
    let copied = meaning (g.D.Dir.device left.result.0.dir) left.result.0.graph left.result.0.tags in
    both_give left.result.1 c.finish.result.1 (λ (done : Copied). done.report) (λ report copy keeps. reached_kept source old copied c.args.selected.now.0 new.graph copy (some_stay left.result.0.graph new.graph c.args.selected.now.0 c.args.goal.now.0 c.requires.fits.selected keeps))
    c.finish.ensures.report (rw (c.roots-roots.ensures, only.dir, only.graph, only.tags) at left.ensures.copied) c.finish.ensures.stays

pub finish-requires-clause-held : goal.finish-requires-clause-held
finish-requires-clause-held g c =
    let left = c.copy_plan-destination in
    let only = c.take_index-index.ensures.only in
    let grows = rw (c.roots-roots.ensures, only.dir, only.graph, only.tags) at left.ensures.grows in
    on_ok_from left.result.1 _ _ (λ report copy. goal_held c.args.destination.graph left.result.0.graph c.args.selected.now.0 c.args.goal.now.0 grows.begins copy.roots_held c.requires.fits.held)
    (rw (c.roots-roots.ensures, only.dir, only.graph, only.tags) at left.ensures.copied)

pub returns-clause-stays : goal.returns-clause-stays
returns-clause-stays g c =
    let left = c.copy_plan-destination in
    let only = c.take_index-index.ensures.only in
    let grows = rw (c.roots-roots.ensures, only.dir, only.graph, only.tags) at left.ensures.grows in
    let new = c.finish.result.0 in
    held_stay c.args.destination.graph left.result.0.graph new.graph (values_of new.tags) grows.begins c.finish.ensures.reached

pub returns-clause-unpruned : goal.returns-clause-unpruned
returns-clause-unpruned g c =
    let left = c.copy_plan-destination in
    let only = c.take_index-index.ensures.only in
    let grows = rw (c.roots-roots.ensures, only.dir, only.graph, only.tags) at left.ensures.grows in
    let new = c.finish.result.0 in
    after_refused (BeginsWith c.args.destination.graph new.graph) left.result.1 c.args.is_exact c.args.goal.now.0 (g.D.Dir.device left.result.0.dir).failures (g.D.Dir.device new.dir) c.args.seen.now.0 new c.finish.result.1 c.finish.ensures.refused
    (err_gives left.result.1 (λ same. rw same.graph grows.begins) c.finish.ensures.unsaved)

pub returns-clause-contents : goal.returns-clause-contents
returns-clause-contents g c =
    let from = c.args.source.now in
    let to = c.args.destination in
    let left = c.copy_plan-destination in
    let only = c.take_index-index.ensures.only in
    let grows = rw (c.roots-roots.ensures, only.dir, only.graph, only.tags) at left.ensures.grows in
    let new = c.finish.result.0 in
    let source = meaning (g.S.Dir.device from.dir) from.graph from.tags in
    let old = meaning (g.D.Dir.device to.dir) to.graph to.tags in
    let copied = meaning (g.D.Dir.device left.result.0.dir) left.result.0.graph left.result.0.tags in
    after_refused (KeepsContents source old (meaning (g.D.Dir.device new.dir) new.graph new.tags)) left.result.1 c.args.is_exact c.args.goal.now.0 (g.D.Dir.device left.result.0.dir).failures (g.D.Dir.device new.dir) c.args.seen.now.0 new c.finish.result.1 c.finish.ensures.refused
    (err_gives left.result.1 (λ same. rw (same.dir, same.graph, same.tags) (contents_after source old copied c.args.selected.now.0 (keys_of_one_digest (g.S.Dir.device from.dir).file from.graph) grows)) c.finish.ensures.unsaved)

pub returns-clause-refused : goal.returns-clause-refused
returns-clause-refused g c =
    let left = c.copy_plan-destination in
    let only = c.take_index-index.ensures.only in
    let new = c.finish.result.0 in
    or_seen (g.D.Dir.device new.dir) c.args.seen.now.0
    (mirror_refused c.args.options.now.workers _ (inl refl) left.result.1 (rw (only.dir, only.graph, only.tags) at left.ensures.refused) c.args.is_exact c.args.goal.now.0
    (g.D.Dir.device c.args.destination.dir).failures (g.D.Dir.device left.result.0.dir).failures (rw only.dir at left.ensures.grows.failures) (g.D.Dir.device new.dir) new) c.finish.result.1 c.finish.ensures.refused

pub returns-clause-left : goal.returns-clause-left
returns-clause-left g c =
    let from = c.args.source.now in
    let left = c.copy_plan-destination in
    let only = c.take_index-index.ensures.only in
    left_mirrored g.D.Dir.device (meaning (g.S.Dir.device from.dir) from.graph from.tags) c.args.destination left.result.0 c.finish.result.0 c.args.selected.now.0 left.result.1 (keys_of_one_digest (g.S.Dir.device from.dir).file from.graph)
    (rw (c.roots-roots.ensures, only.dir, only.graph, only.tags) at left.ensures.grows) (rw only.dir at left.ensures.calm) c.finish.ensures.unsaved (rw c.count-from.ensures.count at c.finish.ensures.left)

pub returns-clause-lasts : goal.returns-clause-lasts
returns-clause-lasts g c =
    let from = c.args.source.now in
    let left = c.copy_plan-destination in
    let only = c.take_index-index.ensures.only in
    lasts_mirrored g.D.Dir.device (meaning (g.S.Dir.device from.dir) from.graph from.tags) c.args.destination left.result.0 c.finish.result.0 c.args.selected.now.0 left.result.1 c.finish.result.1 (λ (done : Copied). done.report) (keys_of_one_digest (g.S.Dir.device from.dir).file from.graph)
    (rw (c.roots-roots.ensures, only.dir, only.graph, only.tags) at left.ensures.grows) (rw only.dir at left.ensures.calm) c.finish.ensures.report (rw c.count-from.ensures.count at c.finish.ensures.lasts)

pub copy_plan-destination-requires-send-D : goal.copy_plan-destination-requires-send-D
copy_plan-destination-requires-send-D g c κs within = param_send _ _ (arg_send _ no _ (layout_send _ (param 5 g.row.D-Draft) _ g.D.Draft.Drafting c.type_bounds.send-D))

pub copy_plan-destination-requires-sync-A : goal.copy_plan-destination-requires-sync-A
copy_plan-destination-requires-sync-A g c κs within = param_sync _ _ (arg_sync _ no _ (layout_sync _ (param 4 g.row.S-Draft) _ g.S.Draft.Drafting c.type_bounds.sync-S))
