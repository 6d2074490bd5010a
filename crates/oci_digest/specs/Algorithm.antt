-- The known digest algorithms (OCI image specification 1.1, descriptor.md, "Registered
-- Algorithms").
use Rattle.std.specs.Prelude.{ℕ, List, codes}
use Rattle.sha2.specs.Sha256 as fips256
use Rattle.sha2.specs.Sha512 as fips512
use Rattle.oci_digest.specs.Grammar.{IsLowerHex}

-- SHA-256 and SHA-512
pub data Algorithm : Type 0 where
  sha256 : Algorithm
  sha512 : Algorithm

-- the name of an algorithm
abbrev pub name_of : Algorithm → List ℕ
name_of sha256 = codes "sha256"
name_of sha512 = codes "sha512"

-- the number of hexadecimal digits of a hash by this algorithm
abbrev pub digits_of : Algorithm → ℕ
digits_of sha256 = 64
digits_of sha512 = 128

-- the encoded part of a digest by this algorithm: `digits_of` characters of [a-f0-9]
abbrev pub IsEncodedBy : Algorithm → List ℕ → Type 0
IsEncodedBy a s = IsLowerHex (digits_of a) s

-- the hash of some bytes by an algorithm (FIPS 180-4)
abbrev pub hash_of : Algorithm → List ℕ → List ℕ
hash_of sha256 bytes = fips256.sha256 bytes
hash_of sha512 bytes = fips512.sha512 bytes
