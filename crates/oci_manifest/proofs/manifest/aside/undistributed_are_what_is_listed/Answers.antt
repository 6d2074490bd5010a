use Rattle.oci_manifest.proofs.Asides.{aside-sound, aside-complete}
use Rattle.oci_manifest.proofs.manifest.aside.undistributed_are_what_is_listed.Goals as goal

pub returns : goal.returns
returns c kind bytes aside = (aside-sound kind bytes aside, aside-complete kind bytes aside)
