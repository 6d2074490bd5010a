use Rattle.oci_selection.proofs.Selections.{placed_none, placed_more, placed_all}
use Rattle.oci_selection.proofs.roots.climb_from_all.Goals as goal

pub loop-key-init : goal.loop-key-init
loop-key-init g c = placed_none (g.A.Store.state c.args.source.now).nodes c.args.referrers _ c.new-roots.ensures

pub loop-key-preserved : goal.loop-key-preserved
loop-key-preserved g c =
    placed_more (g.A.Store.state c.args.source.now).nodes c.args.referrers c.args.keys.now c.loop-key.key-index c.key-item.result c.loop-key.roots c.place_climbed.new.roots
    c.loop-key-test.true c.key-item.is c.in_ok-place_climbed.ensures c.loop-key.invariant

pub returns : goal.returns
returns g c = record {
  each = rw c.into_keys.ensures.keys (placed_all (g.A.Store.state c.args.source.now).nodes c.args.referrers c.loop-key.roots c.args.keys.now c.loop-key.key-index c.loop-key-test.false c.loop-key.invariant);
  distinct = c.into_keys.ensures.distinct;
}
