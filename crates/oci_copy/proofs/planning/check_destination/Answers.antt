use Rattle.std.proofs.Common.{sym, ◌∙◌}
use Rattle.oci_store.proofs.ClosedGraphs.{IsClosed-from_first_missing_successor}
use Rattle.oci_copy.proofs.Destinations.{closed_when_skipping}
use Rattle.oci_copy.proofs.planning.check_destination.Goals as goal

pub returns-in-Ok-None-clause-closed : goal.returns-in-Ok-None-clause-closed
returns-in-Ok-None-clause-closed g c =
    let nodes = (g.D.Store.state c.args.destination.now).nodes in
    closed_when_skipping c.args.options.now.existing nodes (IsClosed-from_first_missing_successor nodes (sym c.in-Ok-None.ensures ∙ c.in-Ok-None.field-0-is))
