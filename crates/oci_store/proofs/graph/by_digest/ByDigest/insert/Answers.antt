use Rattle.std.proofs.Common.{◌≡◌, true, cond, subst, ◌∙◌}
use Rattle.std.specs.BTreeSet.{contains}
use Rattle.std.specs.Ordering.{is_eq}
use Rattle.oci_manifest.specs.Descriptor.{Descriptor}
use Rattle.oci_store.specs.ByDigest.{digest_cmp}
use Rattle.oci_store.proofs.ByDigests.{in_more}
use Rattle.oci_store.proofs.graph.by_digest.ByDigest.insert.Goals as goal

pub returns-clause-noted : goal.returns-clause-noted
returns-clause-noted c =
    let set = c.args.self.now.keys in
    let new = c.insert.new.self in
    let same = c.new.ensures ∙ c.in_ok-try_clone.ensures in
    in_more set new c.args.key.now
    (λ other. subst (λ (k : Descriptor). contains digest_cmp new other ≡ cond (is_eq (digest_cmp k other)) true (contains digest_cmp set other)) same (c.in_ok-insert.ensures.updates.0 other))
