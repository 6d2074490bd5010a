use Rattle.std.proofs.Common.{List, map, subst}
use Rattle.oci_layout_store.specs.Entries.{said}
use Rattle.oci_manifest.specs.Descriptor.{Descriptor, is_among}
use Rattle.oci_query_commands.specs.Broken.{broken_of, key_of_tag, AreBroken}
use Rattle.oci_query_commands.specs.declared.broken.FindingsByTag.{FindingsByTag}
use Rattle.oci_query_commands.proofs.Verified.{whole_iff}
use Rattle.oci_query_commands.proofs.query.print_by_tag.Goals as goal

pub returns-clause-outcome : goal.returns-clause-outcome
returns-clause-outcome g c = λ has.
    let layout = c.args.layout.now in
    let iff = whole_iff (g.D.Dir.device layout.dir) layout.graph layout.opened c.in_ok-findings.findings has c.in_ok-print_findings_of_all.ensures.readable c.in_ok-findings.ensures in
    (λ good. iff.0 (c.outcome-outcome.ensures.0 good), λ whole. c.outcome-outcome.ensures.1 (iff.1 whole))

pub returns-clause-printed : goal.returns-clause-printed
returns-clause-printed g c = λ lines.
    let layout = c.args.layout.now in
    let findings = c.in_ok-findings.findings in
    let tags = c.in_ok-broken.broken in
    let by_tag : FindingsByTag = record { findings = findings; broken = tags } in
    let broken = subst (λ (keys : List Descriptor). AreBroken layout.graph (is_among keys) (key_of_tag (said layout.opened.content).entries) (map broken_of tags.items)) c.deref.ensures.value c.in_ok-broken.ensures in
    (by_tag, record { found = c.in_ok-findings.ensures; broken = broken }, c.in_ok-print_findings_of_all.ensures.lines lines)
