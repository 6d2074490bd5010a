use Rattle.std.proofs.Common.{◌≡◌, true, List, subst, sym}
use Rattle.std.specs.Prelude.{Contains}
use Rattle.std.specs.Option.{option_copied}
use Rattle.std.proofs.lemmas.Result.{IfErr-weaker, IfOk-weaker}
use Rattle.oci_manifest.specs.Descriptor.{Descriptor}
use Rattle.oci_layout_store.specs.Blobs.{stored}
use Rattle.oci_layout_store.specs.Meaning.{meaning}
use Rattle.oci_store.specs.Keyed.{has_key}
use Rattle.oci_prune.specs.Aside.{is_one_of, AreListedAside, IsAsideFault}
use Rattle.oci_prune.proofs.Asides.{aside_more}
use Rattle.oci_prune.proofs.Passing.{asked_held, read_aside}
use Rattle.oci_prune.proofs.aside.read_layers.Goals as goal

pub returns-clause-exact : goal.returns-clause-exact
returns-clause-exact g c =
    let layout = c.args.layout.now in
    let file = (g.D.Dir.device layout.dir).file in
    IfOk-weaker c.undistributed_by_any.result _ _
    (λ listed are honest. read_aside (is_one_of (option_copied c.args.among)) file layout.graph c.in_ok-held.held.items c.in_ok-asked.asked.items listed.items c.in_ok-held.ensures (rw c.deref.ensures.value at c.in_ok-asked.ensures)
    (subst (λ (ks : List Descriptor). AreListedAside (stored file layout.graph) ks listed.items) c.deref-2.ensures.value (are honest)))
    c.undistributed_by_any.ensures.exact

pub returns-clause-cause : goal.returns-clause-cause
returns-clause-cause g c =
    let layout = c.args.layout.now in
    let store = meaning (g.D.Dir.device layout.dir) layout.graph layout.tags in
    IfErr-weaker c.undistributed_by_any.result _ _
    (λ e one. aside_more store (Contains c.in_ok-asked.asked.items) (λ (k : Descriptor). has_key layout.graph k ≡ true) e
    (asked_held (is_one_of (option_copied c.args.among)) layout.graph c.in_ok-held.held.items c.in_ok-asked.asked.items c.in_ok-held.ensures (rw c.deref.ensures.value at c.in_ok-asked.ensures))
    (subst (λ (ks : List Descriptor). IsAsideFault store (Contains ks) e) c.deref-2.ensures.value one))
    c.undistributed_by_any.ensures.cause
