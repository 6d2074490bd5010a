use Rattle.std.proofs.Common.{List, refl, subst}
use Rattle.oci_manifest.specs.Descriptor.{Descriptor}
use Rattle.oci_store.specs.Tags.{by_bytes}
use Rattle.oci_prune.specs.Belonging.{AreAttachedTo}
use Rattle.oci_prune.proofs.Bringing.{attached_members, complete_from}
use Rattle.oci_prune.proofs.belonging.belonging_by.Goals as goal

pub returns-clause-complete : goal.returns-clause-complete
returns-clause-complete g c =
    let graph = c.args.layout.now.graph in
    let attachments = c.args.attachments in
    let to = attached_members graph c.args.keys.now c.in_ok-listed.listed.items c.in_ok-attached.attached.items attachments c.in_ok-members.members c.in_ok-members.ensures.members c.in_ok-listed.ensures.keys
    (subst (λ (ks : List Descriptor). AreAttachedTo attachments c.in_ok-members.members ks c.in_ok-attached.attached.items) c.deref.ensures.value c.in_ok-attached.ensures.exact) in
    complete_from graph c.args.keys.now (by_bytes c.args.tags.now) attachments (record { members = c.in_ok-members.members; attached = c.in_ok-attached.attached; tags = c.in_ok-tags.tags; attachments = attachments }) c.in_ok-members.ensures.members to
    c.requires c.in_ok-attached.ensures.distinct (rw (c.deref-2.ensures.value, c.in_ok-listed.ensures.keys) at c.in_ok-tags.ensures) refl
