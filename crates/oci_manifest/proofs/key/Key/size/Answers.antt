use Rattle.oci_manifest.proofs.key.Key.size.Goals as goal

pub returns-clause-key : goal.returns-clause-key
returns-clause-key c = rw (← c.self.view_is) (record { is_digest = c.algorithm.ensures.digest; fits = c.self.invariant })
