-- How contracts see a digest: as its text.
use Rattle.std.specs.Prelude.{Bool, ◌&&◌, ◌||◌, ◌==◌, take, drop, length, ◌≡◌, ℕ, List, [], ◌∷◌, ◌++◌, if◌then◌else◌}
use Rattle.std.specs.List.{list_all}
use Rattle.std.specs.Str.{bytes_eq}
use Rattle.hex.specs.Hex.{encode_lower}
use Rattle.oci_digest.specs.Algorithm.{Algorithm, sha256, sha512, name_of, digits_of, hash_of, IsEncodedBy}
use Rattle.oci_digest.specs.Grammar.{is_lower_hex}

-- the text of a digest: the algorithm's name, a colon (58), and the hash in lower-case hexadecimal
-- digits
abbrev pub text_by : Algorithm → List ℕ → List ℕ
text_by a hash = name_of a ++ 58 ∷ encode_lower hash

-- the digest of some bytes by an algorithm
abbrev pub digest_by : Algorithm → List ℕ → List ℕ
digest_by a bytes = text_by a (hash_of a bytes)

-- the digest of some bytes if no algorithm is named: by SHA-256
abbrev pub digest_of : List ℕ → List ℕ
digest_of bytes = digest_by sha256 bytes

-- the text of a digest by a known algorithm: its name, a colon, and an encoded part of that
-- algorithm
abbrev pub IsDigest : List ℕ → Type 0
IsDigest text = (a : Algorithm) × (encoded : List ℕ) × (text ≡ name_of a ++ 58 ∷ encoded) × IsEncodedBy a encoded

-- Boolean test of `IsDigest` for one algorithm; both names have 6 characters
abbrev pub is_digest_by : Algorithm → List ℕ → Bool
is_digest_by a text = bytes_eq (take 7 text) (name_of a ++ 58 ∷ []) && (length (drop 7 text) == digits_of a) && list_all is_lower_hex (drop 7 text)

-- Boolean test of `IsDigest`
unfoldable pub is_digest : List ℕ → Bool
is_digest text = is_digest_by sha256 text || is_digest_by sha512 text

-- the part of a digest's text before its first colon
abbrev pub algorithm_of : List ℕ → List ℕ
algorithm_of [] = []
algorithm_of (c ∷ text) = if c == 58 then [] else c ∷ algorithm_of text

-- the part of a digest's text after its first colon
abbrev pub encoded_of : List ℕ → List ℕ
encoded_of [] = []
encoded_of (c ∷ text) = if c == 58 then text else encoded_of text

-- the digest is that of the bytes by its own algorithm (descriptor.md, "Verification")
abbrev pub Verifies : List ℕ → List ℕ → Type 0
Verifies digest bytes = (a : Algorithm) × (algorithm_of digest ≡ name_of a) × (digest ≡ digest_by a bytes)

-- Boolean test of `Verifies`
unfoldable pub verifies : List ℕ → List ℕ → Bool
verifies digest bytes = bytes_eq digest (digest_by sha256 bytes) || bytes_eq digest (digest_by sha512 bytes)
