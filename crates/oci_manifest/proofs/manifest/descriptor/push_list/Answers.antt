use Rattle.std.proofs.Common.{◌∙◌, sym, arith}
use Rattle.oci_manifest.proofs.Steps.{list_step-good, list_step-bad, list_end, prepend_err}
use Rattle.oci_manifest.proofs.manifest.descriptor.push_list.Goals as goal

pub returns-in_default : goal.returns-in_default
returns-in_default c =
    prepend_err c.args.found.now.items _ _ (sym c.loop-position.invariant
    ∙ list_step-bad c.loop-position.found.items c.args.name.now c.args.list.now c.loop-position.position c.index-list-position.result (omega arith) c.index-list-position.is (sym c.in_default.is ∙ c.in_ok-key.ensures))

pub loop-position-preserved : goal.loop-position-preserved
loop-position-preserved c =
    let step = list_step-good c.loop-position.found.items c.args.name.now c.args.list.now c.loop-position.position c.index-list-position.result c.in-Some.key (omega arith) c.index-list-position.is (sym c.in-Some.is ∙ c.in_ok-key.ensures) in
    rw c.in_ok-push.ensures.items (sym step ∙ c.loop-position.invariant)

pub returns : goal.returns
returns c =
    sym c.loop-position.invariant ∙ list_end c.loop-position.found.items c.args.name.now c.args.list.now c.loop-position.position (omega arith)
