use Rattle.serde_json.specs.View.{view}
use Rattle.oci_manifest.specs.Reading.{successors_of}
use Rattle.oci_manifest.proofs.Subjects.{stated-refused}
use Rattle.oci_manifest.proofs.manifest.links.read_links.Goals as goal

pub returns-clause-successors : goal.returns-clause-successors
returns-clause-successors c =
    stated-refused c.args.kind (view c.in_ok-manifest.manifest) c.in_ok-keys.keys.items c.in-Err.fault c.in_ok-keys.ensures c.in-Err.ensures (successors_of c.args.kind c.args.bytes.now)
