use Rattle.std.proofs.Common.{ap, subst}
use Rattle.oci_digest.specs.Hashing.{hash_in, HasTaken}
use Rattle.oci_digest.specs.declared.hash.Hash.TheVariants as code
use Rattle.oci_digest.proofs.DigestLemmas.{verifies_as_hash}
use Rattle.oci_digest.proofs.hasher.Taking.matches.Goals as goal

pub returns-in-Sha256 : goal.returns-in-Sha256
returns-in-Sha256 c digest m h =
    let taken = subst (λ t. HasTaken t m) c.in-Sha256.is h.taken in
    rw h.of_digest (verifies_as_hash (hash_in c.args.self) (code.Sha256 c.in-Sha256.bytes) m c.eq.result h.is_hash (ap hash_in c.in-Sha256.is) (rw (c.finalize.ensures m taken) at c.eq.ensures))

pub returns-in-Sha512 : goal.returns-in-Sha512
returns-in-Sha512 c digest m h =
    let taken = subst (λ t. HasTaken t m) c.in-Sha512.is h.taken in
    rw h.of_digest (verifies_as_hash (hash_in c.args.self) (code.Sha512 c.in-Sha512.bytes) m c.eq-in-Sha512.result h.is_hash (ap hash_in c.in-Sha512.is) (rw (c.finalize-in-Sha512.ensures m taken) at c.eq-in-Sha512.ensures))
