use Rattle.oci_copy.specs.Cause.{IsTurnCause}
use Rattle.oci_copy.proofs.Headline.{is_copy, is_report, only_grows}
use Rattle.oci_copy.proofs.Causes.{refused_at_turn, refused_at_start}
use Rattle.oci_copy.proofs.Unfailing.{refused_alone}
use Rattle.oci_copy.proofs.single.copy_one.Goals as goal

pub returns-in-Err-clause-plain : goal.returns-in-Err-clause-plain
returns-in-Err-clause-plain g c unfailing =
    refused_alone c.args.options.now unfailing c.args.roots.now c.in-Err.fault
    (refused_at_start (IsTurnCause (g.D.Store.state c.args.destination)) c.args.options.now (g.A.Store.state c.args.source.now) (g.D.Store.state c.args.destination) c.args.roots.now c.in-Err.fault c.in-Err.ensures.cause)

pub returns-in-Ok-push_all-clause-copied : goal.returns-in-Ok-push_all-clause-copied
returns-in-Ok-push_all-clause-copied g c =
    is_copy c.in-Ok.ensures.plan c.push_all.ensures.keeps c.in-Ok-push_all.ensures.held (g.D.Store.listed c.args.destination) (g.D.Store.same_keys c.push_all.new.destination) c.report_of.result
    (is_report c.in-Ok.ensures.plan c.report_of.result c.report_of.ensures.planned c.report_of.ensures.pushed c.report_of.ensures.skipped c.in-Ok-push_all.ensures.count)

pub returns-in-Ok-push_all-clause-grows : goal.returns-in-Ok-push_all-clause-grows
returns-in-Ok-push_all-clause-grows g c = only_grows c.in-Ok.ensures.plan c.push_all.ensures.keeps

pub returns-clause-grows : goal.returns-clause-grows
returns-clause-grows g c = only_grows c.in-Ok.ensures.plan c.push_all.ensures.keeps

pub returns-clause-refused : goal.returns-clause-refused
returns-clause-refused g c =
    let it = c.in-Err-push_all.ensures.cause in
    refused_at_turn (g.D.Store.state c.push_all.new.destination) c.in-Err-push_all.fault c.in-Ok.ensures.plan it.0 it.1 it.2
