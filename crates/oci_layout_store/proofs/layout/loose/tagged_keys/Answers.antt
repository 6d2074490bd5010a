use Rattle.std.proofs.Common.{◌≡◌, take, ◌+◌, true, cond, subst}
use Rattle.std.specs.BTreeSet.{contains}
use Rattle.std.specs.Map.{values_of}
use Rattle.std.specs.Ordering.{is_eq}
use Rattle.oci_manifest.specs.Descriptor.{Descriptor, key_cmp}
use Rattle.oci_store.specs.Tags.{by_bytes}
use Rattle.oci_layout_store.proofs.Loose.{HasKeys-more, values-more}
use Rattle.oci_layout_store.proofs.layout.loose.tagged_keys.Goals as goal

pub loop-tag-preserved : goal.loop-tag-preserved
loop-tag-preserved c =
    let i = c.loop-tag.tag-index in
    let tags = c.args.tags.now in
    let key = c.tag-item.result.1 in
    HasKeys-more c.loop-tag.tagged c.insert.new.self (values_of (by_bytes (take i tags))) (values_of (by_bytes (take (i + 1) tags))) key c.loop-tag.invariant
    (values-more tags i c.tag-item.result c.loop-tag-test.true c.tag-item.is)
    (λ other. subst (λ (k : Descriptor). contains key_cmp c.insert.new.self other ≡ cond (is_eq (key_cmp k other)) true (contains key_cmp c.loop-tag.tagged other)) c.in_ok-try_clone.ensures (c.in_ok-insert.ensures.updates.0 other))
