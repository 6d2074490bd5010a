use Rattle.std.proofs.Common.{◌≡◌, List, sym, ap, ◌∙◌}
use Rattle.std.specs.BTreeSet.{contains}
use Rattle.std.specs.List.{list_all}
use Rattle.oci_manifest.specs.Descriptor.{Descriptor, is_among, key_cmp}
use Rattle.oci_layout_store.proofs.SavedEntries.{HasAmong}
use Rattle.oci_prune.specs.Attached.{attached_in}
use Rattle.oci_prune.proofs.Unlisting.{unlisted_if_all}
use Rattle.oci_prune.proofs.free.is_unlisted.Goals as goal

pub returns : goal.returns
returns g c =
    let set = c.in_ok-attached.attached in
    let attached = attached_in c.args.attachments.now c.args.key.now in
    let has : HasAmong set attached = λ k. c.in_ok-attached.ensures k ∙ ap (λ (ks : List Descriptor). is_among ks k) (c.deref.ensures.value ∙ c.in_ok-attached_to.ensures) in
    let all : c.has_all.result ≡ list_all (contains key_cmp set) c.in_ok-parents.parents.items = c.has_all.ensures ∙ ap (list_all (contains key_cmp set)) c.deref-2.ensures.value in
    let iff = unlisted_if_all (g.S.Store.state c.args.source.now).nodes c.args.attachments.now c.args.key.now c.in_ok-parents.parents.items set c.in_ok-parents.ensures has in
    (λ yes. iff.0 (sym all ∙ yes), λ unlisted. all ∙ iff.1 unlisted)
