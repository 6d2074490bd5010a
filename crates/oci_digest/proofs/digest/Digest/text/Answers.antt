use Rattle.oci_digest.proofs.DigestLemmas.{IsDigest-text_of}
use Rattle.oci_digest.proofs.digest.Digest.text.Goals as goal

pub returns-in_err-format-clause-parses : goal.returns-in_err-format-clause-parses
returns-in_err-format-clause-parses c = rw (← c.self.view_is) (IsDigest-text_of c.self.inside.hash c.self.invariant)

pub returns-clause-parses : goal.returns-clause-parses
returns-clause-parses c = rw (← c.self.view_is) (IsDigest-text_of c.self.inside.hash c.self.invariant)
