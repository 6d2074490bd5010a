use Rattle.std.proofs.Common.{sym}
use Rattle.oci_store.specs.Graph.{nodes_of}
use Rattle.oci_store.proofs.ClosedGraphs.{first_missing_successor-from_IsClosed}
use Rattle.oci_live.proofs.live_store.dest.LiveStoreDest.missing.Goals as goal

pub returns : goal.returns
returns g c = sym (first_missing_successor-from_IsClosed (nodes_of c.args.self.now.entries) c.shelf-closed.ensures.closed)
