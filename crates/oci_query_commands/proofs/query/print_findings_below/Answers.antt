use Rattle.oci_query_commands.proofs.Below.{below_iff}
use Rattle.oci_query_commands.proofs.query.print_findings_below.Goals as goal

pub returns-clause-outcome : goal.returns-clause-outcome
returns-clause-outcome g c = λ has.
    let layout = c.args.layout.now in
    let iff = below_iff (g.D.Dir.device layout.dir) layout.graph layout.opened c.in_ok-root.root c.in_ok-findings.findings has c.in_ok-findings.ensures.distinct c.in_ok-root.ensures.there c.in_ok-findings.ensures.found in
    record {
      key = c.in_ok-root.root;
      named = c.in_ok-root.ensures.found;
      exact = (λ good. iff.0 (c.outcome-outcome.ensures.0 good), λ whole. c.outcome-outcome.ensures.1 (iff.1 whole));
    }

pub returns-clause-printed : goal.returns-clause-printed
returns-clause-printed g c = λ lines. (c.in_ok-root.root, c.in_ok-root.ensures.found, (c.in_ok-findings.findings, c.in_ok-findings.ensures.found, c.in_ok-print_answer.ensures.lines lines))
