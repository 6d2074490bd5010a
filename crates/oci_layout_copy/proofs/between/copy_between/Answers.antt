use denote.Exit.{no}
use denote.Param.{param}
use denote.Param.Send.{param_send, param_sync, arg_send, arg_sync}
use Rattle.std.proofs.Common.{inl, refl, List}
use Rattle.oci_store.specs.Content.{Entry}
use Rattle.oci_copy.specs.declared.report.Report.{Report}
use Rattle.oci_layout_store.specs.Files.{HasFiles}
use Rattle.oci_layout_store.specs.Meaning.{meaning}
use Rattle.oci_layout_store.proofs.Crosses.{layout_send, layout_sync}
use Rattle.oci_layout_store.proofs.Law.{keys_of_one_digest}
use Rattle.oci_layout_copy.proofs.Saved.{after_report, sound_after, came_after, checked_after, met_after, report_after, copied_after, reached_after, files_after, refused_after, workers_after}
use Rattle.oci_layout_copy.proofs.Seen.{or_seen}
use Rattle.oci_layout_copy.proofs.Settled.{lasts_between, left_between}
use Rattle.oci_layout_copy.proofs.between.copy_between.Goals as goal

pub returns-clause-report : goal.returns-clause-report
returns-clause-report g c =
    let from = c.args.source.now in
    let left = c.copy_plan-destination in
    let only = c.take_index-index.ensures.only in
    let grows = rw (c.roots-roots.ensures, only.dir, only.graph, only.tags) at left.ensures.grows in
    after_report left.result.1 c.finish.result.1 (λ report copy. report_after (keys_of_one_digest (g.S.Dir.device from.dir).file from.graph) grows c.finish.ensures.saved c.args.options.now.existing report copy.reported)
    c.finish.ensures.report (rw (c.roots-roots.ensures, only.dir, only.graph, only.tags) at left.ensures.copied)

pub returns-clause-workers : goal.returns-clause-workers
returns-clause-workers g c =
    let left = c.copy_plan-destination in
    workers_after c.args.options.now.workers _ left.result.1 c.finish.result.1 (λ (r : Report). r) left.ensures.refused c.finish.ensures.report

pub returns-clause-copied : goal.returns-clause-copied
returns-clause-copied g c =
    let from = c.args.source.now in
    let left = c.copy_plan-destination in
    let only = c.take_index-index.ensures.only in
    let grows = rw (c.roots-roots.ensures, only.dir, only.graph, only.tags) at left.ensures.grows in
    after_report left.result.1 c.finish.result.1 (λ report copy. copied_after (keys_of_one_digest (g.S.Dir.device from.dir).file from.graph) grows c.finish.ensures.saved copy)
    c.finish.ensures.report (rw (c.roots-roots.ensures, only.dir, only.graph, only.tags) at left.ensures.copied)

pub returns-clause-reached : goal.returns-clause-reached
returns-clause-reached g c =
    let from = c.args.source.now in
    let left = c.copy_plan-destination in
    let only = c.take_index-index.ensures.only in
    let grows = rw (c.roots-roots.ensures, only.dir, only.graph, only.tags) at left.ensures.grows in
    after_report left.result.1 c.finish.result.1 (λ report copy. reached_after (keys_of_one_digest (g.S.Dir.device from.dir).file from.graph) grows c.finish.ensures.saved copy)
    c.finish.ensures.report (rw (c.roots-roots.ensures, only.dir, only.graph, only.tags) at left.ensures.copied)

pub returns-clause-brought : goal.returns-clause-brought
returns-clause-brought g c = rw c.take_index-index.ensures.taken at c.finish.ensures.brought

pub returns-clause-sound : goal.returns-clause-sound
returns-clause-sound g c =
    let from = c.args.source.now in
    let only = c.take_index-index.ensures.only in
    sound_after (keys_of_one_digest (g.S.Dir.device from.dir).file from.graph) (rw (only.dir, only.graph, only.tags) at c.copy_plan-destination.ensures.grows) c.finish.ensures.saved

pub returns-clause-came : goal.returns-clause-came
returns-clause-came g c =
    let from = c.args.source.now in
    let only = c.take_index-index.ensures.only in
    came_after (keys_of_one_digest (g.S.Dir.device from.dir).file from.graph) (rw (only.dir, only.graph, only.tags) at c.copy_plan-destination.ensures.grows) c.finish.ensures.saved

pub returns-clause-checked : goal.returns-clause-checked
returns-clause-checked g c =
    let from = c.args.source.now in
    let only = c.take_index-index.ensures.only in
    checked_after (keys_of_one_digest (g.S.Dir.device from.dir).file from.graph) (rw (only.dir, only.graph, only.tags) at c.copy_plan-destination.ensures.grows) c.finish.ensures.saved

pub returns-clause-met : goal.returns-clause-met
returns-clause-met g c =
    let from = c.args.source.now in
    let left = c.copy_plan-destination in
    let only = c.take_index-index.ensures.only in
    let grows = rw (c.roots-roots.ensures, only.dir, only.graph, only.tags) at left.ensures.grows in
    met_after (keys_of_one_digest (g.S.Dir.device from.dir).file from.graph) grows c.finish.ensures.saved

pub returns-clause-files : goal.returns-clause-files
returns-clause-files g c =
    let from = c.args.source.now in
    let only = c.take_index-index.ensures.only in
    let left = c.finish.result.0 in
    files_after (keys_of_one_digest (g.S.Dir.device from.dir).file from.graph) (rw (only.dir, only.graph, only.tags) at c.copy_plan-destination.ensures.grows) c.finish.ensures.saved c.finish.result.1
    (λ (content : List Entry). HasFiles (g.D.Dir.device left.dir).file content left.graph left.tags left.opened) c.finish.ensures.files

pub returns-clause-refused : goal.returns-clause-refused
returns-clause-refused g c =
    let left = c.copy_plan-destination in
    let only = c.take_index-index.ensures.only in
    or_seen (g.D.Dir.device c.finish.result.0.dir) c.args.seen.now.0
    (refused_after c.args.options.now.workers _ _ _ (inl refl) (λ fault is. ((g.D.Dir.device left.result.0.dir).failures, (rw only.dir at left.ensures.grows.failures), is))
    left.result.1 (rw (only.dir, only.graph, only.tags) at left.ensures.refused)) c.finish.result.1 c.finish.ensures.refused

pub returns-clause-left : goal.returns-clause-left
returns-clause-left g c =
    let from = c.args.source.now in
    let left = c.copy_plan-destination in
    let only = c.take_index-index.ensures.only in
    left_between g.D.Dir.device (meaning (g.S.Dir.device from.dir) from.graph from.tags) c.args.destination left.result.0 c.finish.result.0 c.args.selected.now.0 left.result.1 (keys_of_one_digest (g.S.Dir.device from.dir).file from.graph)
    (rw (c.roots-roots.ensures, only.dir, only.graph, only.tags) at left.ensures.grows) (rw only.dir at left.ensures.calm) c.finish.ensures.unsaved c.finish.ensures.saved (rw c.count-from.ensures.count at c.finish.ensures.left)

pub returns-clause-lasts : goal.returns-clause-lasts
returns-clause-lasts g c =
    let from = c.args.source.now in
    let left = c.copy_plan-destination in
    let only = c.take_index-index.ensures.only in
    lasts_between g.D.Dir.device (meaning (g.S.Dir.device from.dir) from.graph from.tags) c.args.destination left.result.0 c.finish.result.0 c.args.selected.now.0 left.result.1 c.finish.result.1 (λ (r : Report). r) (keys_of_one_digest (g.S.Dir.device from.dir).file from.graph)
    (rw (c.roots-roots.ensures, only.dir, only.graph, only.tags) at left.ensures.grows) (rw only.dir at left.ensures.calm) c.finish.ensures.report c.finish.ensures.saved (rw c.count-from.ensures.count at c.finish.ensures.lasts)

pub copy_plan-destination-requires-send-D : goal.copy_plan-destination-requires-send-D
copy_plan-destination-requires-send-D g c κs within = param_send _ _ (arg_send _ no _ (layout_send _ (param 5 g.row.D-Draft) _ g.D.Draft.Drafting c.type_bounds.send-D))

pub copy_plan-destination-requires-sync-A : goal.copy_plan-destination-requires-sync-A
copy_plan-destination-requires-sync-A g c κs within = param_sync _ _ (arg_sync _ no _ (layout_sync _ (param 4 g.row.S-Draft) _ g.S.Draft.Drafting c.type_bounds.sync-S))
