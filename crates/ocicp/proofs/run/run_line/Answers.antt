use Rattle.ocicp.proofs.Statuses.{command_status}
use Rattle.ocicp.proofs.run.run_line.Goals as goal

pub returns-clause-status : goal.returns-clause-status
returns-clause-status g c = command_status c.run_request-done.result c.form_of-form.result c.finish_run-ended.result.status c.finish_run-ended.ensures.done c.finish_run-ended.ensures.refused

pub returns-clause-done : goal.returns-clause-done
returns-clause-done g c good =
    let is = c.finish_run-ended.ensures.good good in
    let named = c.form_of-form.ensures in
    let done = rw is at c.run_request-done.ensures in
    (_, rw named at done)
