use Rattle.oci_manifest.proofs.Laws.{reads-sound, reads-complete, breaks, breaks-complete}
use Rattle.oci_manifest.proofs.manifest.successors_are_what_is_listed.Goals as goal

pub returns-clause-reads : goal.returns-clause-reads
returns-clause-reads c kind bytes listed = (reads-sound kind bytes listed, reads-complete kind bytes listed)

pub returns-clause-breaks : goal.returns-clause-breaks
returns-clause-breaks c kind bytes broken = (breaks kind bytes broken, breaks-complete kind bytes broken)
