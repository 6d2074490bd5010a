use Rattle.oci_manifest.proofs.ArtifactTypes.{artifact_type_of-sound, artifact_type_of-complete}
use Rattle.oci_manifest.proofs.manifest.artifact.artifact_type_is_what_is_declared.Goals as goal

pub returns : goal.returns
returns c kind bytes type = (artifact_type_of-sound kind bytes type, artifact_type_of-complete kind bytes type)
