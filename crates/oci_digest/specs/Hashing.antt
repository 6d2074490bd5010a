-- The state of a hasher.
use Rattle.std.specs.Prelude.{◌≡◌, ℕ, List}
use Rattle.sha2.specs.Hashers.{Holds256, Holds512}
use Rattle.oci_digest.specs.Hash.{IsHash, text_of}
use Rattle.oci_digest.specs.declared.hash.Hash.{Hash}
use Rattle.oci_digest.specs.declared.hash.Hash.TheVariants as code
use Rattle.oci_digest.specs.declared.hasher.Hasher.{Hasher}
use Rattle.oci_digest.specs.declared.hasher.Taking.{Taking}
use Rattle.oci_digest.specs.declared.hasher.Taking.TheVariants as taking

-- the hash that the content is compared with
abbrev pub hash_in : Taking → Hash
hash_in (taking.Sha256 bytes hasher) = code.Sha256 bytes
hash_in (taking.Sha512 bytes hasher) = code.Sha512 bytes

-- the state has taken these bytes
abbrev pub HasTaken : Taking → List ℕ → Type 0
HasTaken (taking.Sha256 bytes hasher) m = Holds256 hasher m
HasTaken (taking.Sha512 bytes hasher) m = Holds512 hasher m

-- the state belongs to this digest, and has taken these bytes
pub record IsTaking (t : Taking) (digest m : List ℕ) : Type 0 where
  pub is_hash : IsHash (hash_in t)
  pub of_digest : digest ≡ text_of (hash_in t)
  pub taken : HasTaken t m

-- the hasher belongs to this digest, and has taken these bytes
unfoldable pub IsHashing : Hasher → List ℕ → List ℕ → Type 0
IsHashing h digest m = IsTaking h.taking digest m
