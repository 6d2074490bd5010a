use Rattle.std.proofs.Common.{◌≡◌, ◌↔◌, true}
use Rattle.std.proofs.lemmas.Bool.Decides.{same_from_decides}
use Rattle.oci_digest.specs.Digest.{Verifies}
use Rattle.oci_digest.specs.declared.hash.Hash.TheVariants as code
use Rattle.oci_digest.proofs.DigestLemmas.{Decides-verifies, verifies_as_hash}
use Rattle.oci_digest.proofs.digest.Digest.matches.Goals as goal

short : (c : goal.After-eq) → (c.eq.result ≡ true) ↔ Verifies c.args.self.now c.args.content.now
short c = rw (← c.self.view_is) (verifies_as_hash c.self.inside.hash (code.Sha256 c.in-Sha256.bytes) c.args.content.now c.eq.result c.self.invariant c.in-Sha256.is (rw c.digest.ensures at c.eq.ensures))

long : (c : goal.After-eq-in-Sha512) → (c.eq-in-Sha512.result ≡ true) ↔ Verifies c.args.self.now c.args.content.now
long c = rw (← c.self.view_is) (verifies_as_hash c.self.inside.hash (code.Sha512 c.in-Sha512.bytes) c.args.content.now c.eq-in-Sha512.result c.self.invariant c.in-Sha512.is (rw c.digest-in-Sha512.ensures at c.eq-in-Sha512.ensures))

pub returns-in-Sha256-clause-verifies : goal.returns-in-Sha256-clause-verifies
returns-in-Sha256-clause-verifies c = short c

pub returns-in-Sha256-clause-tests : goal.returns-in-Sha256-clause-tests
returns-in-Sha256-clause-tests c = same_from_decides {P = Verifies c.args.self.now c.args.content.now} _ _ (short c) (Decides-verifies c.args.self.now c.args.content.now)

pub returns-in-Sha512-clause-verifies : goal.returns-in-Sha512-clause-verifies
returns-in-Sha512-clause-verifies c = long c

pub returns-in-Sha512-clause-tests : goal.returns-in-Sha512-clause-tests
returns-in-Sha512-clause-tests c = same_from_decides {P = Verifies c.args.self.now c.args.content.now} _ _ (long c) (Decides-verifies c.args.self.now c.args.content.now)
