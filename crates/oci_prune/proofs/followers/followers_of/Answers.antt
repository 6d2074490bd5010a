use Rattle.std.proofs.Common.{List, String, Global, subst, arith}
use Rattle.std.proofs.lemmas.List.{take_all}
use Rattle.oci_manifest.specs.Descriptor.{Descriptor}
use Rattle.oci_store.specs.Tags.{by_bytes}
use Rattle.oci_prune.specs.Attached.{AreStemmed}
use Rattle.oci_prune.proofs.Following.{stemmed_more, are_followers}
use Rattle.oci_prune.proofs.followers.followers_of.Goals as goal

pub loop-tag-preserved : goal.loop-tag-preserved
loop-tag-preserved c =
    stemmed_more c.args.tags.now c.loop-tag.tag-index c.tag-item.result c.loop-tag.followers c.add_follower.new.followers c.loop-tag-test.true c.tag-item.is c.loop-tag.invariant (rw (c.stem.ensures, c.as_str.ensures.value) at c.in_ok-add_follower.ensures)

pub returns : goal.returns
returns c =
    are_followers (by_bytes c.args.tags.now) c.loop-tag.followers
    (subst (λ (ts : List (String Global × Descriptor)). AreStemmed (by_bytes ts) c.loop-tag.followers) (take_all c.loop-tag.tag-index c.args.tags.now (omega (arith, c.loop-tag-test.false))) c.loop-tag.invariant)
