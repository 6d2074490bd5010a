use Rattle.oci_prune.proofs.Passing.{are_passed_over}
use Rattle.oci_prune.proofs.passed.keys_passed_over.Goals as goal

pub returns-clause-exact : goal.returns-clause-exact
returns-clause-exact g c = λ honest.
    let layout = c.args.layout.now in
    are_passed_over (g.D.Dir.device layout.dir).file layout.graph c.args.keys.now c.in_ok-passed.passed.items c.none.result c.in_ok-reached.reached c.none.ensures c.in_ok-reached.ensures.members (c.in_ok-passed.ensures.exact honest) c.in_ok-passed.ensures.order
