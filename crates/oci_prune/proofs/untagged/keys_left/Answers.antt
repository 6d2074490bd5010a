use Rattle.std.proofs.Common.{◌≡◌, ◌++◌, List, String, Global, not, filter, ap, subst, ◌∙◌}
use Rattle.std.specs.BTreeSet.{contains}
use Rattle.oci_manifest.specs.Descriptor.{Descriptor, key_cmp}
use Rattle.oci_store.specs.Tags.{Tags, by_bytes}
use Rattle.oci_layout_store.specs.Blobs.{stored}
use Rattle.oci_prune.specs.Attached.{AreFollowers, AttachedIn, HasAttached}
use Rattle.oci_prune.specs.Belongs.{AreMembers}
use Rattle.oci_prune.proofs.Parting.{are_left, has_followers, others_safe}
use Rattle.oci_prune.proofs.untagged.keys_left.Goals as goal

pub returns-clause-left : goal.returns-clause-left
returns-clause-left g c = λ honest.
    let l = c.args.layout.now in
    let attachments = c.in_ok-attachments.attachments in
    let tags : by_bytes c.deref.result.now ≡ l.tags = ap by_bytes c.deref.ensures.value ∙ c.in_ok-tags.ensures.exact in
    let entries = stored (g.D.Dir.device l.dir).file l.graph in
    let roots : c.in_ok-roots.roots.items ≡ c.in_ok-outside.outside.items ++ c.args.others.now = c.in_ok-roots.ensures ∙ ap (λ (ks : List Descriptor). c.in_ok-outside.outside.items ++ ks) c.in_ok-copies.ensures in
    are_left l.graph entries l.tags c.args.going.now c.args.others.now c.args.held.now c.in_ok-outside.outside.items c.in_ok-roots.roots.items attachments c.in_ok-gone.gone c.in_ok-kept.kept c.requires
    (subst (λ (ts : Tags). HasAttached entries ts attachments) tags (c.in_ok-attachments.ensures.exact honest)) c.in_ok-gone.ensures.members c.in_ok-outside.ensures roots
    (subst (λ (ks : List Descriptor). AreMembers l.graph ks (AttachedIn attachments) c.in_ok-kept.kept) c.deref-2.ensures.value c.in_ok-kept.ensures.members)

pub returns-clause-safe : goal.returns-clause-safe
returns-clause-safe g c =
    let l = c.args.layout.now in
    let attachments = c.in_ok-attachments.attachments in
    let roots : c.in_ok-roots.roots.items ≡ c.in_ok-outside.outside.items ++ c.args.others.now = c.in_ok-roots.ensures ∙ ap (λ (ks : List Descriptor). c.in_ok-outside.outside.items ++ ks) c.in_ok-copies.ensures in
    others_safe l.graph c.args.others.now c.in_ok-outside.outside.items c.in_ok-roots.roots.items (AttachedIn attachments) c.in_ok-kept.kept roots
    (subst (λ (ks : List Descriptor). AreMembers l.graph ks (AttachedIn attachments) c.in_ok-kept.kept) c.deref-2.ensures.value c.in_ok-kept.ensures.members)

pub returns-clause-followed : goal.returns-clause-followed
returns-clause-followed g c =
    let l = c.args.layout.now in
    let attachments = c.in_ok-attachments.attachments in
    let tags : by_bytes c.deref.result.now ≡ l.tags = ap by_bytes c.deref.ensures.value ∙ c.in_ok-tags.ensures.exact in
    has_followers l.graph l.tags c.in_ok-roots.roots.items attachments c.in_ok-kept.kept (subst (λ (ts : Tags). AreFollowers ts attachments.followers) tags c.in_ok-attachments.ensures.followers)
    (subst (λ (ks : List Descriptor). AreMembers l.graph ks (AttachedIn attachments) c.in_ok-kept.kept) c.deref-2.ensures.value c.in_ok-kept.ensures.members)
