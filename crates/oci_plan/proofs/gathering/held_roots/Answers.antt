use Rattle.std.proofs.Common.{◌∙◌}
use Rattle.oci_store.specs.Keyed.{has_key}
use Rattle.oci_plan.proofs.Names.{places_more}
use Rattle.oci_plan.proofs.gathering.held_roots.Goals as goal

pub loop-root-preserved : goal.loop-root-preserved
loop-root-preserved g c =
    c.in_ok-keep_held.ensures
    ∙ places_more (has_key (g.D.Store.state c.args.destination.now).nodes) c.loop-root.held c.args.roots.now c.loop-root.root-index c.root-item.result c.loop-root-test.true c.root-item.is c.loop-root.invariant
