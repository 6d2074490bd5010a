use Rattle.oci_store.specs.Tags.{by_bytes}
use Rattle.oci_layout_store.specs.Blobs.{stored}
use Rattle.oci_prune.specs.Attached.{AttachedBy}
use Rattle.oci_prune.proofs.Bringing.{belonging_from, memory_fault, ok_both}
use Rattle.oci_prune.proofs.belonging.belonging_of.Goals as goal

pub returns-clause-exact : goal.returns-clause-exact
returns-clause-exact g c =
    let file = (g.D.Dir.device c.args.layout.now.dir).file in
    let graph = c.args.layout.now.graph in
    let tags = by_bytes c.args.tags.now in
    ok_both c.belonging_by.result _ _ _
    (λ b complete tables honest. belonging_from graph c.args.keys.now tags (AttachedBy (stored file graph) tags) c.in_ok-attachments.attachments b (c.in_ok-attachments.ensures.exact honest) complete tables)
    c.belonging_by.ensures.complete c.belonging_by.ensures.tables

pub returns-clause-cause : goal.returns-clause-cause
returns-clause-cause g c = memory_fault c.belonging_by.result _ tt c.belonging_by.ensures.memory
