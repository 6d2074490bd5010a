use Rattle.std.proofs.Common.{inr, arith}
use Rattle.oci_copy.specs.Cause.{CanFail, IsRefusal, IsStepCause}
use Rattle.oci_copy.proofs.Causes.{other_at_start, refused_at_start}
use Rattle.oci_copy.specs.declared.report.Report.{Report}
use Rattle.oci_copy.proofs.Workers.{answered_within, refused_once_planned, refused_by_workers, never_fails}
use Rattle.oci_copy.proofs.graph.copy_graph.Goals as goal

pub returns-in-Ok-clause-refused : goal.returns-in-Ok-clause-refused
returns-in-Ok-clause-refused g c =
    refused_once_planned (CanFail g.D.Store.state (g.D.Store.state c.args.destination)) c.args.options.now.workers
    c.in-Ok.ensures.plan c.copy_plan.result.1 c.copy_plan.ensures.refused

pub returns-in-Err-clause-refused : goal.returns-in-Err-clause-refused
returns-in-Err-clause-refused g c =
    let source = g.A.Store.state c.args.source.now in
    let opening = g.D.Store.state c.args.destination in
    let step = IsStepCause (CanFail g.D.Store.state opening) in
    answered_within Report c.args.options.now.workers (IsRefusal step c.args.options.now source opening c.args.roots.now) c.in-Err.fault (omega arith)
    (other_at_start c.args.options.now source opening c.args.roots.now c.in-Err.fault c.in-Err.ensures.cause)
    (refused_at_start step c.args.options.now source opening c.args.roots.now c.in-Err.fault c.in-Err.ensures.cause)

pub returns-in-Err-clause-plain : goal.returns-in-Err-clause-plain
returns-in-Err-clause-plain g c unfailing =
    let source = g.A.Store.state c.args.source.now in
    let opening = g.D.Store.state c.args.destination in
    let own = unfailing c.args.destination in
    refused_by_workers (CanFail g.D.Store.state opening) source opening
    (never_fails g.D.Store.state opening own.no_failures (λ store. (unfailing store).no_failures)) c.args.options.now own c.args.roots.now c.args.options.now.workers c.in-Err.fault
    (inr (
      omega arith,
      refused_at_start (IsStepCause (CanFail g.D.Store.state opening)) c.args.options.now source opening c.args.roots.now c.in-Err.fault c.in-Err.ensures.cause,
    ))
