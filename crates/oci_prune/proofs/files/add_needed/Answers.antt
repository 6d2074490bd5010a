use Rattle.oci_prune.proofs.Filing.{aside_added}
use Rattle.oci_prune.proofs.files.add_needed.Goals as goal

pub returns-clause-exact : goal.returns-clause-exact
returns-clause-exact g c = λ honest.
    let store = g.S.Store.state c.args.source.now in
    aside_added store.nodes store.entries c.args.key.now c.args.needed.now.items c.add_listed.new.needed.items c.add_all.new.needed.items c.in_ok-aside.aside.items c.in_ok-add_listed.ensures c.in_ok-add_all.ensures (c.in_ok-aside.ensures.exact honest)
