use Rattle.oci_prune.proofs.referrers.add_referrer.Goals as goal

pub returns-in-Some : goal.returns-in-Some
returns-in-Some c = rw c.in-Some.is (rw c.digest.ensures at c.add.ensures)
