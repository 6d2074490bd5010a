use Rattle.std.proofs.Common.{◌≡◌, true, false, List, subst}
use Rattle.std.specs.BTreeSet.{contains}
use Rattle.std.proofs.lemmas.Bool.{false≢true}
use Rattle.std.proofs.lemmas.Result.{err_from_is_err_and}
use Rattle.oci_manifest.specs.Descriptor.{Descriptor, key_cmp}
use Rattle.oci_store.specs.Graph.{root as start}
use Rattle.oci_layout_store.specs.Meaning.{meaning}
use Rattle.oci_prune.specs.Belongs.{AllKnown}
use Rattle.oci_prune.specs.Plan.{IsSafe, RefersIf, roots_of}
use Rattle.oci_prune.specs.Refusal.{IsKeyFault}
use Rattle.oci_prune.proofs.Asides.{files_fault_held}
use Rattle.oci_prune.proofs.Holding.{check_fault, knows_listed, none_removed, safe_for_any, walk_fault}
use Rattle.oci_prune.proofs.Plans.{roots_held, roots_kept}
use Rattle.oci_prune.proofs.plan.plan_prune.Goals as goal

pub returns-in_err-check_whole-clause-cause : goal.returns-in_err-check_whole-clause-cause
returns-in_err-check_whole-clause-cause g c =
    let l = c.args.layout.now in
    let p = err_from_is_err_and c.from_residual.result c.from_residual.ensures.1 in
    rw (p.1, p.2) (check_fault (g.D.Dir.device l.dir) l c.in_err-check_whole.field-0.0 c.in_err-check_whole.ensures.cause)

pub returns-in_err-kept-clause-cause : goal.returns-in_err-kept-clause-cause
returns-in_err-kept-clause-cause g c =
    let l = c.args.layout.now in
    let dir = g.D.Dir.device l.dir in
    let e = c.in_err-kept.field-0.0 in
    let p = err_from_is_err_and c.from_residual-in_err-kept.result c.from_residual-in_err-kept.ensures.1 in
    rw (p.1, p.2) (walk_fault dir l c.in_ok-held.held.items e c.in_ok-held.ensures (subst (λ (ks : List Descriptor). IsKeyFault (meaning dir l.graph l.tags) ks false e) c.deref.ensures.value c.in_err-kept.ensures.cause))

pub returns-in_err-files-clause-cause : goal.returns-in_err-files-clause-cause
returns-in_err-files-clause-cause g c =
    let l = c.args.layout.now in
    let dir = g.D.Dir.device l.dir in
    let kept = c.in_ok-kept.kept in
    let p = err_from_is_err_and c.from_residual-in_err-files.result c.from_residual-in_err-files.ensures.1 in
    rw (p.1, p.2) (files_fault_held dir l (λ k. contains key_cmp kept k ≡ true) c.in_err-files.field-0.0 c.in_ok-kept.ensures.safe.held c.in_err-files.ensures.cause)

pub returns-clause-kept : goal.returns-clause-kept
returns-clause-kept g c =
    let graph = c.args.layout.now.graph in
    let held = c.in_ok-held.held.items in
    let kept = c.in_ok-kept.kept in
    let safe = subst (λ (ks : List Descriptor). IsSafe graph ks kept) c.deref.ensures.value c.in_ok-kept.ensures.safe in
    record {
      kept = λ k. (λ h. safe.held k h, λ there. safe.reached k (start ((c.in_ok-held.ensures.each k).1 there)) there);
      removed = c.new.ensures.items;
    }

pub returns-clause-planned : goal.returns-clause-planned
returns-clause-planned g c =
    let l = c.args.layout.now in
    let graph = l.graph in
    let held = c.in_ok-held.held.items in
    let kept = c.in_ok-kept.kept in
    let safe = subst (λ (ks : List Descriptor). IsSafe graph ks kept) c.deref.ensures.value c.in_ok-kept.ensures.safe in
    let rooted = safe_for_any graph held (roots_of l) kept c.in_ok-held.ensures safe in
    record {
      safe = rooted;
      rooted = roots_kept graph (roots_of l) kept rooted (roots_held l c.tags.ensures.names);
      removed = none_removed graph kept c.new.result.items (λ k there. safe.reached k (start ((c.in_ok-held.ensures.each k).1 there)) there) c.new.ensures.items;
      files = λ honest. c.in_ok-files.ensures.files honest honest;
      drafts = λ honest. c.in_ok-drafts.ensures.found honest;
    }

pub returns-clause-known : goal.returns-clause-known
returns-clause-known g c =
    let l = c.args.layout.now in
    let dir = g.D.Dir.device l.dir in
    let attached = RefersIf false (meaning dir l.graph l.tags) in
    knows_listed dir l.graph c.in_ok-held.held.items attached c.in_ok-held.ensures
    (subst (λ (ks : List Descriptor). AllKnown l.graph ks attached) c.deref.ensures.value (c.in_ok-kept.ensures.known (λ e. absurd (false≢true e))))
