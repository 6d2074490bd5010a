use Rattle.oci_manifest.proofs.Subjects.{answer-reads}
use Rattle.oci_manifest.proofs.manifest.referrer.subject.Goals as goal

pub returns-clause-reads : goal.returns-clause-reads
returns-clause-reads c = answer-reads (λ found. found) c.args.kind c.args.bytes.now c.found_subject.result c.found_subject.ensures
