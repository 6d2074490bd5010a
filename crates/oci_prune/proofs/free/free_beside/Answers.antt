use Rattle.std.proofs.Common.{List, ◌++◌, ap, subst, ◌∙◌}
use Rattle.oci_manifest.specs.Descriptor.{Descriptor}
use Rattle.oci_layout_store.specs.Meaning.{meaning}
use Rattle.oci_prune.specs.Files.{HasDigests}
use Rattle.oci_prune.specs.Free.{AreUnlisted}
use Rattle.oci_prune.specs.Plan.{roots_of}
use Rattle.oci_prune.proofs.Unlisting.{are_free}
use Rattle.oci_prune.proofs.free.free_beside.Goals as goal

pub returns-clause-exact : goal.returns-clause-exact
returns-clause-exact g c = λ honest.
    let l = c.args.layout.now in
    let store = meaning (g.D.Dir.device l.dir) l.graph l.tags in
    let attachments = c.in_ok-attachments.attachments in
    are_free store attachments c.in_ok-held.held.items (c.args.keys.now ++ roots_of l) c.in_ok-apart.apart.items c.in_ok-unnamed.unnamed.items c.in_ok-attached.attached c.in_ok-free.free c.in_ok-named.named c.in_ok-held.ensures
    (c.in_ok-attachments.ensures.exact honest) (rw c.deref-2.ensures.value at c.in_ok-attached.ensures)
    (subst (λ (ks : List Descriptor). HasDigests ks c.in_ok-named.named) (c.deref.ensures.value ∙ c.in_ok-roots.ensures ∙ ap (λ (ks : List Descriptor). ks ++ c.in_ok-tag_roots.field-0.items) c.in_ok-copies.ensures ∙ ap (λ (ks : List Descriptor). c.args.keys.now ++ ks) c.in_ok-tag_roots.ensures) c.in_ok-named.ensures) (rw c.deref-3.ensures.value at c.in_ok-apart.ensures)
    (rw c.deref-4.ensures.value at c.in_ok-unnamed.ensures) (subst (λ (ks : List Descriptor). AreUnlisted l.graph attachments ks c.in_ok-free.free) c.deref-5.ensures.value c.in_ok-free.ensures)
