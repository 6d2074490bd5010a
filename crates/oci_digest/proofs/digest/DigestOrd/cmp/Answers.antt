use Rattle.std.proofs.Common.{◌∙◌}
use Rattle.oci_digest.proofs.Compared.{cmp-text_of}
use Rattle.oci_digest.proofs.digest.DigestOrd.cmp.Goals as goal

pub returns : goal.returns
returns c = rw (← c.self.view_is, ← c.other.view_is) (c.cmp.ensures ∙ cmp-text_of c.self.inside.hash c.other.inside.hash c.self.invariant c.other.invariant)
