use Rattle.std.proofs.Common.{refl}
use Rattle.oci_store.specs.Graph.{nodes_of}
use Rattle.oci_store.proofs.ClosedGraphs.{IsClosed-after}
use Rattle.oci_store.proofs.Leaves.{Matches-drafted}
use Rattle.oci_store.proofs.closed.ClosedStoreDest.push_draft.Goals as goal

pub invariant_of-self : goal.invariant_of-self
invariant_of-self c =
    let k = c.args.key.now in
    let bytes = c.args.draft.bytes.items in
    let did = (c.push_draft.ensures.pushed bytes refl (Matches-drafted k bytes c.requires.matching)).keys in
    IsClosed-after (nodes_of c.self.inside.store.entries) (nodes_of c.push_draft.new.self.entries) k bytes c.push_draft.result c.self.invariant did.pushed did.refused did.checked
