use Rattle.std.proofs.Common.{List, subst}
use Rattle.std.proofs.lemmas.Result.{IfOk-weaker}
use Rattle.oci_manifest.specs.Descriptor.{Descriptor}
use Rattle.oci_store.specs.Tags.{by_bytes}
use Rattle.oci_layout_store.specs.Blobs.{stored, keys_of-stored}
use Rattle.oci_prune.specs.Attached.{AreAttachments}
use Rattle.oci_prune.specs.Subjects.{States}
use Rattle.oci_prune.proofs.Bringing.{attached_same}
use Rattle.oci_prune.proofs.Remembered.{remembered_attached}
use Rattle.oci_prune.proofs.attachments.Attachments.in_layout.Goals as goal

pub returns-in_ok-by_pairs-in-Some-clause-exact : goal.returns-in_ok-by_pairs-in-Some-clause-exact
returns-in_ok-by_pairs-in-Some-clause-exact g c = λ honest.
    remembered_attached (g.D.Dir.device c.args.layout.now.dir).file c.args.layout.now.graph c.in-Some.subjects.now (by_bytes c.args.tags.now) c.in_ok-by_pairs-in-Some.field-0 (c.in-Some.ensures honest)
    c.in_ok-by_pairs-in-Some.ensures.pairs c.in_ok-by_pairs-in-Some.ensures.followers

pub returns-in_ok-held-in-None-clause-exact : goal.returns-in_ok-held-in-None-clause-exact
returns-in_ok-held-in-None-clause-exact g c =
    let file = (g.D.Dir.device c.args.layout.now.dir).file in
    let graph = c.args.layout.now.graph in
    let tags = by_bytes c.args.tags.now in
    IfOk-weaker c.of.result _ _ (λ attachments are honest.
    (let by_held = subst (λ (ks : List Descriptor). AreAttachments (States (stored file graph)) ks tags attachments) c.deref.ensures.value (are honest) in
    attached_same graph (stored file graph) c.in_ok-held-in-None.held.items tags attachments (keys_of-stored file graph) c.in_ok-held-in-None.ensures by_held)) c.of.ensures.exact
