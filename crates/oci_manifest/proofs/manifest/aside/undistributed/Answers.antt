use Rattle.oci_manifest.proofs.Asides.{answer-aside}
use Rattle.oci_manifest.proofs.manifest.aside.undistributed.Goals as goal

pub returns-clause-reads : goal.returns-clause-reads
returns-clause-reads c = answer-aside (λ v. v.items) c.args.kind c.args.bytes.now c.found_undistributed.result c.found_undistributed.ensures.exact
