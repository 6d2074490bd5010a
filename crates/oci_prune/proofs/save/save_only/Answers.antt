use Rattle.std.proofs.Common.{◌≡◌, ℕ, List, sym, subst}
use Rattle.std.proofs.lemmas.Result.{on_ok_weaker}
use Rattle.oci_store.specs.Graph.{Node}
use Rattle.oci_layout_store.specs.Blobs.{IsSound}
use Rattle.oci_layout_store.specs.Index.{index_file}
use Rattle.oci_prune.specs.Pruned.{Spares}
use Rattle.oci_prune.proofs.Settling.{can_settle_kept, lasts_saved, left_saved}
use Rattle.oci_prune.proofs.Sparing.{spares_index}
use Rattle.oci_prune.proofs.save.save_only.Goals as goal

pub returns-clause-only : goal.returns-clause-only
returns-clause-only g c =
    let b = g.D.Dir.device c.save_settled.new.self.dir in
    let retained = c.retain.new.self in
    let saved = c.save_settled.ensures in
    record {
      spared = subst (λ (graph : List Node). Spares (g.D.Dir.device c.args.layout.now.dir) b graph (λ (path : List ℕ). index_file ≡ path)) (sym saved.only.memory.graph)
          (subst (λ (dir : g.row.D.Denot). Spares (g.D.Dir.device dir) b retained.graph (λ (path : List ℕ). index_file ≡ path)) c.in_ok-retain.ensures.dir
          (spares_index (g.D.Dir.device retained.dir) b retained.graph saved.other saved.only.contents (λ h. subst (λ (graph : List Node). IsSound b.is_honest b.file graph) saved.only.memory.graph (saved.only.sound h)) saved.device.honest saved.device.reads));
      sound = λ h. saved.only.sound (c.in_ok-retain.ensures.sound h);
    }

pub returns-clause-left : goal.returns-clause-left
returns-clause-left g c = λ entries tags can closed.
    let kept = c.retain.new.self in
    let count = c.count-count.result in
    left_saved g.D.Dir.device kept c.save_settled.new.self count c.save_settled.ensures.only c.save_settled.ensures.left entries tags
    (can_settle_kept g.D.Dir.device c.args.layout.now kept c.args.kept.now count entries tags c.in_ok-retain.ensures.dir c.in_ok-retain.ensures.retained c.count-count.ensures.count c.in_ok-retain.ensures.sound closed can)

pub returns-clause-lasts : goal.returns-clause-lasts
returns-clause-lasts g c =
    let kept = c.retain.new.self in
    let count = c.count-count.result in
    on_ok_weaker c.save_settled.result (λ saves entries tags can closed. lasts_saved g.D.Dir.device kept c.save_settled.new.self count c.save_settled.ensures.only saves entries tags
    (can_settle_kept g.D.Dir.device c.args.layout.now kept c.args.kept.now count entries tags c.in_ok-retain.ensures.dir c.in_ok-retain.ensures.retained c.count-count.ensures.count c.in_ok-retain.ensures.sound closed can)) c.save_settled.ensures.lasts
