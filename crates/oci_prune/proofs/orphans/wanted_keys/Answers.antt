use Rattle.std.proofs.Common.{◌≡◌, List, String, Global, ap, subst, ◌∙◌}
use Rattle.std.specs.Map.{values_of}
use Rattle.oci_manifest.specs.Descriptor.{Descriptor}
use Rattle.oci_store.specs.Tags.{Tags, by_bytes}
use Rattle.oci_layout_store.specs.Blobs.{stored}
use Rattle.oci_prune.specs.Attached.{AreIndependent, AttachedBy, AttachedIn, HasAttached}
use Rattle.oci_prune.specs.Belongs.{AreMembers}
use Rattle.oci_prune.specs.Orphans.{all_named}
use Rattle.oci_prune.proofs.Plans.{are_kept_same, safe_from_kept}
use Rattle.oci_prune.proofs.orphans.wanted_keys.Goals as goal

pub returns-clause-wanted : goal.returns-clause-wanted
returns-clause-wanted g c =
    let l = c.args.layout.now in
    let entries = stored (g.D.Dir.device l.dir).file l.graph in
    let attachments = c.in_ok-attachments.attachments in
    let wanted = c.in_ok-wanted.wanted in
    let free = by_bytes c.in_ok-free.free.items in
    let for_free : by_bytes c.deref.result.now ≡ all_named l = ap by_bytes c.deref.ensures.value ∙ c.in_ok-named.ensures in
    let for_tables : by_bytes c.deref-2.result.now ≡ all_named l = ap by_bytes c.deref-2.ensures.value ∙ c.in_ok-named.ensures in
    let roots : c.deref-4.result.now ≡ values_of free = c.deref-4.ensures.value ∙ c.in_ok-roots.ensures ∙ ap (λ (ts : List (String Global × Descriptor)). values_of (by_bytes ts)) c.deref-3.ensures.value in
    let members : AreMembers l.graph (values_of free) (AttachedIn attachments) wanted = subst (λ (ks : List Descriptor). AreMembers l.graph ks (AttachedIn attachments) wanted) roots c.in_ok-wanted.ensures.members in
    record {
      free = free;
      are_free = subst (λ (ts : Tags). AreIndependent l.graph ts free) for_free c.in_ok-free.ensures;
      members = λ honest.
          are_kept_same l.graph (values_of free) (AttachedIn attachments) (AttachedBy entries (all_named l)) wanted (subst (λ (ts : Tags). HasAttached entries ts attachments) for_tables (c.in_ok-attachments.ensures.exact honest)) members;
      safe = safe_from_kept l.graph (values_of free) (AttachedIn attachments) wanted members;
    }
