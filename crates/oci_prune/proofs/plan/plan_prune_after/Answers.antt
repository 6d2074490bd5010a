use Rattle.std.proofs.Common.{◌≡◌, true}
use Rattle.std.specs.BTreeSet.{contains}
use Rattle.std.proofs.lemmas.Result.{err_from_is_err_and}
use Rattle.oci_manifest.specs.Descriptor.{key_cmp}
use Rattle.oci_store.proofs.Lookups.{HasAll-from_first_missing}
use Rattle.oci_layout_store.specs.Meaning.{meaning}
use Rattle.oci_layout_store.specs.Layout.{manifests_of}
use Rattle.oci_prune.specs.After.{after_copy}
use Rattle.oci_prune.proofs.Asides.{files_fault_after, key_fault_after}
use Rattle.oci_prune.proofs.Plans.{are_removed}
use Rattle.oci_prune.proofs.plan.plan_prune_after.Goals as goal

pub returns-in_err-kept-clause-cause : goal.returns-in_err-kept-clause-cause
returns-in_err-kept-clause-cause g c =
    let s = c.args.source.now in
    let l = c.args.layout.now in
    let dir = g.D.Dir.device l.dir in
    let after = after_copy (meaning (g.S.Dir.device s.dir) s.graph s.tags) c.args.arriving.now (meaning dir l.graph l.tags) in
    let p = err_from_is_err_and c.from_residual-in_err-kept.result c.from_residual-in_err-kept.ensures.1 in
    rw (p.1, p.2) (key_fault_after dir l.opened after c.args.roots.now c.args.keeps_referrers c.in_err-kept.field-0.0 c.in_err-kept.ensures.cause)

pub returns-in_err-files-clause-cause : goal.returns-in_err-files-clause-cause
returns-in_err-files-clause-cause g c =
    let s = c.args.source.now in
    let l = c.args.layout.now in
    let dir = g.D.Dir.device l.dir in
    let after = after_copy (meaning (g.S.Dir.device s.dir) s.graph s.tags) c.args.arriving.now (meaning dir l.graph l.tags) in
    let kept = c.in_ok-kept.kept in
    let p = err_from_is_err_and c.from_residual-in_err-files.result c.from_residual-in_err-files.ensures.1 in
    rw (p.1, p.2)
    (files_fault_after dir l.opened after c.args.roots.now c.args.keeps_referrers (λ k. contains key_cmp kept k ≡ true) c.in_err-files.field-0.0 (λ k h. (c.in_ok-kept.ensures.safe.held k h, λ trusted. (c.in_ok-kept.ensures.kept trusted k).0 h)) c.in_err-files.ensures.cause)

pub returns-clause-sound : goal.returns-clause-sound
returns-clause-sound g c =
    let s = c.args.source.now in
    let l = c.args.layout.now in
    let after = after_copy (meaning (g.S.Dir.device s.dir) s.graph s.tags) c.args.arriving.now (meaning (g.D.Dir.device l.dir) l.graph l.tags) in
    HasAll-from_first_missing after.nodes (manifests_of l.opened.damaged) c.in_ok-check_whole.ensures.whole.sound

pub returns-clause-planned : goal.returns-clause-planned
returns-clause-planned g c =
    let s = c.args.source.now in
    let l = c.args.layout.now in
    let after = after_copy (meaning (g.S.Dir.device s.dir) s.graph s.tags) c.args.arriving.now (meaning (g.D.Dir.device l.dir) l.graph l.tags) in
    record {
      kept = c.in_ok-kept.ensures.kept;
      known = c.in_ok-kept.ensures.known;
      safe = c.in_ok-kept.ensures.safe;
      removed = are_removed after.nodes c.in_ok-kept.kept c.in_ok-held.held.items c.in_ok-removed.removed.items c.in_ok-held.ensures (rw c.deref-2.ensures.value at c.in_ok-removed.ensures);
      files = λ honest trusted. c.in_ok-files.ensures.files honest trusted;
      drafts = c.new.ensures.items;
    }
