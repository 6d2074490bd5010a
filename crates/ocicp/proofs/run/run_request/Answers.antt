use Rattle.ocicp.proofs.run.run_request.Goals as goal

pub returns-in-Query : goal.returns-in-Query
returns-in-Query g c = rw c.in-Query.is c.ask.ensures
