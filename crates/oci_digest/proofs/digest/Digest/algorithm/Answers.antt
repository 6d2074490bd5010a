use Rattle.oci_digest.proofs.DigestLemmas.{IsDigest-text_of}
use Rattle.oci_digest.proofs.digest.Digest.algorithm.Goals as goal

pub returns-in-Sha256-clause-digest : goal.returns-in-Sha256-clause-digest
returns-in-Sha256-clause-digest c = rw (← c.self.view_is) (IsDigest-text_of c.self.inside.hash c.self.invariant)

pub returns-in-Sha512-clause-digest : goal.returns-in-Sha512-clause-digest
returns-in-Sha512-clause-digest c = rw (← c.self.view_is) (IsDigest-text_of c.self.inside.hash c.self.invariant)
