use Rattle.std.proofs.Common.{◌≡◌, [], true, List, sym, subst, ◌∙◌}
use Rattle.std.specs.BTreeSet.{contains}
use Rattle.std.proofs.lemmas.Result.{err_from_is_err_and}
use Rattle.oci_manifest.specs.Descriptor.{Descriptor, key_cmp}
use Rattle.oci_layout_store.specs.Meaning.{meaning}
use Rattle.oci_prune.specs.Plan.{AreHeld, AreKept, IsSafe, RefersIf, roots_of, roots_with}
use Rattle.oci_prune.specs.Refusal.{IsKeyFault}
use Rattle.oci_prune.proofs.Asides.{files_fault_after, key_fault_after, plan_fault_from}
use Rattle.oci_prune.proofs.Holding.{check_untagged, tags_untagged}
use Rattle.oci_prune.proofs.Plans.{tags_fault, are_removed, safe_for_fewer, roots_kept}
use Rattle.oci_prune.proofs.plan.plan_prune_keeping.Goals as goal

pub returns-in_err-check_whole-clause-untagged : goal.returns-in_err-check_whole-clause-untagged
returns-in_err-check_whole-clause-untagged g c = λ none whole sound readable honest unlinked.
    let l = c.args.layout.now in
    let p = err_from_is_err_and c.from_residual.result c.from_residual.ensures.1 in
    rw (p.1, p.2) (check_untagged (g.D.Dir.device l.dir) l.graph l.opened c.in_err-check_whole.field-0.0 whole sound readable honest unlinked c.in_err-check_whole.ensures.cause)

pub returns-in_err-roots-clause-untagged : goal.returns-in_err-roots-clause-untagged
returns-in_err-roots-clause-untagged g c = λ none whole sound readable honest unlinked.
    let l = c.args.layout.now in
    let p = err_from_is_err_and c.from_residual-in_err-roots.result c.from_residual-in_err-roots.ensures.1 in
    rw (p.1, p.2) (tags_untagged (g.D.Dir.device l.dir) c.in_err-roots.field-0.0 (l.tags ≡ []) c.in_err-roots.ensures.cause)

pub returns-in_err-roots-clause-cause : goal.returns-in_err-roots-clause-cause
returns-in_err-roots-clause-cause g c =
    let l = c.args.layout.now in
    let p = err_from_is_err_and c.from_residual-in_err-roots.result c.from_residual-in_err-roots.ensures.1 in
    rw (p.1, p.2)
    (tags_fault (g.D.Dir.device l.dir) l (roots_with l c.args.keys.now) c.args.keeps_referrers c.in_err-roots.field-0.0 c.in_err-roots.ensures.cause)

pub returns-in_err-kept-clause-cause : goal.returns-in_err-kept-clause-cause
returns-in_err-kept-clause-cause g c =
    let l = c.args.layout.now in
    let dir = g.D.Dir.device l.dir in
    let store = meaning dir l.graph l.tags in
    let keeps = c.args.keeps_referrers in
    let roots = roots_with l c.args.keys.now in
    let e = c.in_err-kept.field-0.0 in
    let p = err_from_is_err_and c.from_residual-in_err-kept.result c.from_residual-in_err-kept.ensures.1 in
    let is = c.deref.ensures.value ∙ c.in_ok-roots.ensures.roots in
    rw (p.1, p.2) (plan_fault_from dir l roots keeps e (key_fault_after dir l.opened store roots keeps e (subst (λ (ks : List Descriptor). IsKeyFault store ks keeps e) is c.in_err-kept.ensures.cause)))

pub returns-in_err-files-clause-cause : goal.returns-in_err-files-clause-cause
returns-in_err-files-clause-cause g c =
    let l = c.args.layout.now in
    let dir = g.D.Dir.device l.dir in
    let store = meaning dir l.graph l.tags in
    let keeps = c.args.keeps_referrers in
    let roots = roots_with l c.args.keys.now in
    let kept = c.in_ok-kept.kept in
    let e = c.in_err-files.field-0.0 in
    let p = err_from_is_err_and c.from_residual-in_err-files.result c.from_residual-in_err-files.ensures.1 in
    let is = c.deref.ensures.value ∙ c.in_ok-roots.ensures.roots in
    let are = λ (trusted : keeps ≡ true → store.is_honest). subst (λ (ks : List Descriptor). AreKept l.graph ks (RefersIf keeps store) kept) is (c.in_ok-kept.ensures.kept trusted) in
    rw (p.1, p.2)
    (plan_fault_from dir l roots keeps e
    (files_fault_after dir l.opened store roots keeps (λ k. contains key_cmp kept k ≡ true) e (λ k h. (c.in_ok-kept.ensures.safe.held k h, λ trusted. (are trusted k).0 h)) c.in_err-files.ensures.cause))

pub plan_keys-requires : goal.plan_keys-requires
plan_keys-requires g c = subst (λ (ks : List Descriptor). AreHeld c.args.layout.now.graph ks) (sym c.deref-2.ensures.value) c.in_ok-held.ensures

pub returns-clause-planned : goal.returns-clause-planned
returns-clause-planned g c =
    let l = c.args.layout.now in
    let graph = l.graph in
    let roots = c.deref.ensures.value ∙ c.in_ok-roots.ensures.roots in
    let safe = safe_for_fewer graph c.args.keys.now (roots_of l) c.in_ok-kept.kept (subst (λ (ks : List Descriptor). IsSafe graph ks c.in_ok-kept.kept) roots c.in_ok-kept.ensures.safe) in
    record {
      safe = safe;
      rooted = roots_kept graph (roots_of l) c.in_ok-kept.kept safe c.in_ok-roots.ensures.held;
      removed = are_removed graph c.in_ok-kept.kept c.in_ok-held.held.items c.in_ok-removed.removed.items c.in_ok-held.ensures (rw c.deref-3.ensures.value at c.in_ok-removed.ensures);
      files = λ honest. c.in_ok-files.ensures.files honest honest;
      drafts = λ honest. c.in_ok-drafts.ensures.found honest;
    }
