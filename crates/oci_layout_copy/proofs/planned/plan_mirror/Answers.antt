use Rattle.oci_layout_store.specs.Meaning.{meaning}
use Rattle.oci_layout_copy.proofs.PlannedCopies.{copied_after}
use Rattle.oci_layout_copy.proofs.planned.plan_mirror.Goals as goal

pub returns-clause-copied : goal.returns-clause-copied
returns-clause-copied g c = λ arriving has sound agree.
    let from = c.args.source.now in
    let to = c.args.destination.now in
    let source = meaning (g.S.Dir.device from.dir) from.graph from.tags in
    let old = meaning (g.D.Dir.device to.dir) to.graph to.tags in
    copied_after source old c.args.options.now c.args.selected.now.0 c.in_ok-plan.plan (rw c.roots.ensures at c.in_ok-plan.ensures.plan) sound.is_honest sound.listed arriving has agree
