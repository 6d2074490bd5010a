use Rattle.std.proofs.Common.{◌∙◌}
use Rattle.oci_digest.proofs.Compared.{eq-text_of}
use Rattle.oci_digest.proofs.digest.DigestPartialEq.eq.Goals as goal

pub returns : goal.returns
returns c = rw (← c.self.view_is, ← c.other.view_is) (c.eq.ensures ∙ eq-text_of c.self.inside.hash c.other.inside.hash c.self.invariant c.other.invariant)
