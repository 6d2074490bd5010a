use Rattle.oci_digest.proofs.Accepts.{Decides-is_digest}
use Rattle.oci_digest.proofs.DigestLemmas.{Decides-verifies}
use Rattle.oci_digest.proofs.digest.tests_decide_definitions.Goals as goal

pub returns-clause-verifies : goal.returns-clause-verifies
returns-clause-verifies c digest bytes = Decides-verifies digest bytes

pub returns-clause-is_digest : goal.returns-clause-is_digest
returns-clause-is_digest c text = Decides-is_digest text
