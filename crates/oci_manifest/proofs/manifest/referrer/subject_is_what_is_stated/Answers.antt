use Rattle.oci_manifest.proofs.Subjects.{subject_of-sound, subject_of-complete}
use Rattle.oci_manifest.proofs.manifest.referrer.subject_is_what_is_stated.Goals as goal

pub returns : goal.returns
returns c kind bytes k = (subject_of-sound kind bytes k, subject_of-complete kind bytes k)
