use Rattle.oci_store.specs.Graph.{nodes_of}
use Rattle.oci_store.proofs.ClosedGraphs.{IsClosed-after}
use Rattle.oci_store.proofs.closed.ClosedStoreDest.push_checked.Goals as goal

pub invariant_of-self : goal.invariant_of-self
invariant_of-self c =
    let did = c.push_checked.ensures.pushed.keys in
    IsClosed-after (nodes_of c.self.inside.store.entries) (nodes_of c.push_checked.new.self.entries) c.args.content.0 c.args.content.1 c.push_checked.result c.self.invariant did.pushed did.refused did.checked
