use Rattle.std.proofs.Common.{refl, arith}
use Rattle.std.specs.Prelude.{Contains}
use Rattle.oci_copy.specs.Cause.{CanFail, IsStepCause, RefusedAt}
use Rattle.oci_copy.proofs.Growth.{keeps_start}
use Rattle.oci_copy.proofs.Headline.{is_copy, is_report, only_grows}
use Rattle.oci_copy.specs.declared.report.Report.{Report}
use Rattle.oci_copy.proofs.Workers.{as_many_pushed, answered_within, stopped_later, stopped_other}
use Rattle.oci_copy.proofs.planned.copy_plan.Goals as goal

pub run_copy_jobs-destination-requires-clause-begins : goal.run_copy_jobs-destination-requires-clause-begins
run_copy_jobs-destination-requires-clause-begins g c κs within = record {
  keeps = keeps_start g.D.Dest.shares (g.A.Store.state c.args.source.now) c.args.plan.now.keys (g.D.Store.state c.args.destination);
  halted = λ halted. halted;
  calm = refl;
}

pub returns-in-Ok-clause-copied : goal.returns-in-Ok-clause-copied
returns-in-Ok-clause-copied g c =
    let can_push = c.requires.can_push in
    let held = rw c.in-Ok.is at c.run_copy_jobs-destination.ensures.held in
    is_copy c.requires c.run_copy_jobs-destination.ensures.keeps held (g.D.Store.listed c.args.destination) (g.D.Store.same_keys c.run_copy_jobs-destination.result.0) c.report_of.result
    (is_report c.requires c.report_of.result c.report_of.ensures.planned c.report_of.ensures.pushed c.report_of.ensures.skipped
    (as_many_pushed c.run_copy_jobs-destination.ensures.keeps can_push.plan.distinct can_push.fresh c.run_copy_jobs-destination.ensures.distinct held))

pub returns-in-Ok-clause-grows : goal.returns-in-Ok-clause-grows
returns-in-Ok-clause-grows g c = only_grows c.requires c.run_copy_jobs-destination.ensures.keeps

pub returns-in-Err-clause-grows : goal.returns-in-Err-clause-grows
returns-in-Err-clause-grows g c = only_grows c.requires c.run_copy_jobs-destination.ensures.keeps

pub returns-in-Err-clause-spared : goal.returns-in-Err-clause-spared
returns-in-Err-clause-spared g c =
    let opening = g.D.Store.state c.args.destination in
    let cause = rw c.in-Err.is at c.run_copy_jobs-destination.ensures.cause in
    record {
      tags = c.run_copy_jobs-destination.ensures.keeps.tags;
      unchanged = λ early. absurd (stopped_later (CanFail g.D.Store.state opening) (g.A.Store.state c.args.source.now) opening c.args.plan.now.keys c.in-Err.fault cause early);
    }

pub returns-in-Err-clause-refused : goal.returns-in-Err-clause-refused
returns-in-Err-clause-refused g c =
    let source = g.A.Store.state c.args.source.now in
    let opening = g.D.Store.state c.args.destination in
    let failed = CanFail g.D.Store.state opening in
    let cause = rw c.in-Err.is at c.run_copy_jobs-destination.ensures.cause in
    answered_within Report c.args.options.now.workers (RefusedAt (Contains c.args.plan.now.keys) (IsStepCause failed source opening)) c.in-Err.fault (omega arith)
    (stopped_other failed source opening c.args.plan.now.keys c.in-Err.fault cause) cause
