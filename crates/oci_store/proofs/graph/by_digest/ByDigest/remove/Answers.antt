use Rattle.std.proofs.Common.{◌≡◌, false, cond, subst}
use Rattle.std.specs.BTreeSet.{contains}
use Rattle.std.specs.Ordering.{is_eq}
use Rattle.oci_manifest.specs.Descriptor.{Descriptor}
use Rattle.oci_store.specs.ByDigest.{digest_cmp}
use Rattle.oci_store.proofs.ByDigests.{in_less}
use Rattle.oci_store.proofs.graph.by_digest.ByDigest.remove.Goals as goal

pub returns : goal.returns
returns c =
    let set = c.args.self.now.keys in
    let new = c.remove.new.self in
    in_less set new c.args.key
    (λ other. subst (λ (k : Descriptor). contains digest_cmp new other ≡ cond (is_eq (digest_cmp k other)) false (contains digest_cmp set other)) c.new-key.ensures (c.remove.ensures.updates.0 other))
