use Rattle.std.proofs.Common.{map, ap}
use Rattle.std.specs.BTreeSet.{contains}
use Rattle.std.proofs.lemmas.List.{drop_all}
use Rattle.oci_manifest.specs.Descriptor.{key_cmp}
use Rattle.oci_store.specs.Tags.{by_bytes}
use Rattle.oci_query_commands.specs.Broken.{broken_of}
use Rattle.oci_query_commands.proofs.BrokenTags.{IsBreaking-all, IsBreaking-next, IsBreaking-start}
use Rattle.oci_query_commands.proofs.broken.broken_among.Goals as goal

pub loop-tag-init : goal.loop-tag-init
loop-tag-init g c = IsBreaking-start c.args.layout.now.graph (contains key_cmp c.args.corrupt.now) (by_bytes c.args.tags.now) _ c.requires.order (ap (map broken_of) c.new-broken.ensures.items)

pub loop-tag-preserved : goal.loop-tag-preserved
loop-tag-preserved g c =
    IsBreaking-next c.args.layout.now.graph (contains key_cmp c.args.corrupt.now) c.args.tags.now _ _ c.loop-tag.tag-index c.loop-tag-item.result c.requires.order c.loop-tag-test.true c.loop-tag-item.is c.loop-tag.invariant c.in_ok-add_broken.ensures

pub returns : goal.returns
returns g c =
    IsBreaking-all c.args.layout.now.graph (contains key_cmp c.args.corrupt.now) (by_bytes c.args.tags.now) _ _ (ap by_bytes (drop_all c.loop-tag.tag-index c.args.tags.now c.loop-tag-test.false)) c.loop-tag.invariant
