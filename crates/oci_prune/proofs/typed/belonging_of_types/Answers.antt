use Rattle.std.proofs.Common.{ℕ, List, [], map, subst}
use Rattle.oci_manifest.specs.Descriptor.{Descriptor}
use Rattle.oci_layout_store.specs.Blobs.{stored, keys_of-stored}
use Rattle.oci_layout_store.specs.Meaning.{meaning}
use Rattle.oci_prune.specs.Attached.{AreAttachments}
use Rattle.oci_prune.specs.Typed.{RefersByTypes, StatesOfTypes}
use Rattle.oci_prune.proofs.Bringing.{belonging_from, memory_fault, ok_both}
use Rattle.oci_prune.proofs.Typing.{typed_same}
use Rattle.oci_prune.proofs.typed.belonging_of_types.Goals as goal

pub returns-clause-exact : goal.returns-clause-exact
returns-clause-exact g c =
    let dir = g.D.Dir.device c.args.layout.now.dir in
    let graph = c.args.layout.now.graph in
    let store = meaning dir graph c.args.layout.now.tags in
    let keys = c.args.keys.now in
    let types : List (List ℕ) = map (λ t. t.now) c.args.types.now in
    let digests = c.in_ok-subjects.subjects in
    let attachments = c.in_ok-attachments.attachments in
    ok_both c.belonging_by.result _ _ _
    (λ b complete tables honest.
    let are = subst (λ (ks : List Descriptor). AreAttachments (StatesOfTypes (stored dir.file graph) digests types) ks [] attachments) c.deref.ensures.value (c.in_ok-attachments.ensures.exact honest) in
    belonging_from graph keys [] (RefersByTypes store keys types) attachments b (typed_same store keys c.in_ok-held.held.items digests types attachments (keys_of-stored dir.file graph) c.in_ok-held.ensures c.in_ok-subjects.ensures.exact are) complete tables)
    c.belonging_by.ensures.complete c.belonging_by.ensures.tables

pub returns-clause-cause : goal.returns-clause-cause
returns-clause-cause g c = memory_fault c.belonging_by.result _ tt c.belonging_by.ensures.memory
