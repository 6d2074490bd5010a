use Rattle.std.proofs.Common.{◌≡◌, true, inr, List, subst}
use Rattle.std.specs.Prelude.{Contains}
use Rattle.std.specs.BTreeSet.{contains}
use Rattle.std.proofs.lemmas.Map.Views.{btree_set_contains_iff}
use Rattle.std.proofs.lemmas.Result.{err_from_is_err_and}
use Rattle.oci_manifest.specs.Descriptor.{Descriptor, key_cmp}
use Rattle.oci_store.proofs.KeyOrder.{key_cmp_total, key_cmp_exact}
use Rattle.oci_prune.specs.Aside.{IsAsideFault}
use Rattle.oci_prune.specs.Files.{AreNeeded, HasDigests}
use Rattle.oci_prune.proofs.Asides.{aside_more}
use Rattle.oci_prune.proofs.Filing.{are_unneeded}
use Rattle.oci_prune.proofs.files.plan_files.Goals as goal

pub returns-in_err-listed-clause-cause : goal.returns-in_err-listed-clause-cause
returns-in_err-listed-clause-cause g c =
    let store = g.S.Store.state c.args.store.now in
    let kept = c.args.kept.now in
    let e = c.in_err-listed.field-0.0 in
    let p = err_from_is_err_and c.from_residual-in_err-listed.result c.from_residual-in_err-listed.ensures.1 in
    let one = subst (λ (ks : List Descriptor). IsAsideFault store (Contains ks) e) c.deref.ensures.value c.in_err-listed.ensures.cause in
    rw (p.1, p.2)
    (inr (aside_more store (Contains c.in_ok-kept.kept.items) (λ k. contains key_cmp kept k ≡ true) e (λ k h. (btree_set_contains_iff key_cmp_total key_cmp_exact kept k).1 (subst (λ (ks : List Descriptor). Contains ks k) c.in_ok-kept.ensures.keys h)) one))

pub returns-clause-files : goal.returns-clause-files
returns-clause-files g c = λ honest trusted.
    let dir = g.D.Dir.device c.args.layout.now.dir in
    let store = g.S.Store.state c.args.store.now in
    let kept = c.in_ok-kept.kept.items in
    let keys = c.in_ok-listed.listed.items in
    let are_needed = subst (λ (ks : List Descriptor). AreNeeded store.nodes store.entries ks keys) c.deref.ensures.value (c.in_ok-listed.ensures.exact trusted) in
    let needed = subst (λ (ks : List Descriptor). HasDigests ks c.in_ok-needed.needed) c.deref-2.ensures.value c.in_ok-needed.ensures in
    rw c.in_ok-files.ensures
    (rw c.deref-3.ensures.value
    (are_unneeded dir.file store.nodes store.entries c.args.kept.now kept keys c.args.held.now c.in_ok-needed.needed c.in_ok-held.held c.in_ok-blobs.blobs.items (c.in_ok-blobs.ensures.found honest) c.in_ok-kept.ensures.keys are_needed needed
    c.requires c.in_ok-held.ensures))
