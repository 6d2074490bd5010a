use Rattle.oci_export.proofs.outlining.outline.Goals as goal

pub returns-in-Ok-clause-listed : goal.returns-in-Ok-clause-listed
returns-in-Ok-clause-listed g c = rw c.holding.ensures c.in_ok-graph.ensures.listed
