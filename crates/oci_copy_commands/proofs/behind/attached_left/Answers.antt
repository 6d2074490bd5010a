use Rattle.oci_layout_store.specs.Meaning.{meaning}
use Rattle.oci_prune.specs.Attached.{AttachedBy}
use Rattle.oci_prune.specs.Belonging.{IsAttachedMember, IsBelonging}
use Rattle.oci_copy_commands.proofs.Leaving.{left_of}
use Rattle.oci_copy_commands.proofs.behind.attached_left.Goals as goal

pub returns-in-Ok-clause-left : goal.returns-in-Ok-clause-left
returns-in-Ok-clause-left g c = λ honest.
    let source = c.args.source.now in
    let store = meaning (g.S.Dir.device source.dir) source.graph source.tags in
    let belonging = c.in-Ok.belonging in
    let found : IsBelonging source.graph c.args.roots.now (AttachedBy store.entries source.tags) belonging = rw (c.deref.ensures.value, c.in_ok-tags.ensures.exact) at (c.in-Ok.ensures.exact honest) in
    left_of (IsAttachedMember source.graph c.args.roots.now (AttachedBy store.entries source.tags)) c.args.destination.now.graph belonging.attached.items c.in_ok-keys_unheld-in-Ok.field-0.items
    found.attached (rw c.deref-in-Ok.ensures.value at c.in_ok-keys_unheld-in-Ok.ensures)
