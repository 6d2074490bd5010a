-- The hash inside a digest, and the digest's text.
use Rattle.std.specs.Prelude.{◌≡◌, ℕ, ◌*◌, List, [], length, take, drop, codes, if◌then◌else◌}
use Rattle.std.specs.Result.{result_unwrap_or}
use Rattle.std.specs.Str.{bytes_eq}
use Rattle.hex.specs.Hex.{IsBytes, decode_of}
use Rattle.oci_digest.specs.Algorithm.{Algorithm, sha256, sha512, digits_of}
use Rattle.oci_digest.specs.Digest.{text_by}
use Rattle.oci_digest.specs.declared.hash.Hash.{Hash}
use Rattle.oci_digest.specs.declared.hash.Hash.TheVariants as code

-- the algorithm of a hash
abbrev pub algorithm_in : Hash → Algorithm
algorithm_in (code.Sha256 bytes) = sha256
algorithm_in (code.Sha512 bytes) = sha512

-- the bytes of a hash
abbrev pub bytes_in : Hash → List ℕ
bytes_in (code.Sha256 bytes) = bytes
bytes_in (code.Sha512 bytes) = bytes

-- the hash has the length that its algorithm requires, and consists of bytes
pub record IsHash (hash : Hash) : Type 0 where
  pub len : 2 * length (bytes_in hash) ≡ digits_of (algorithm_in hash)
  pub are_bytes : IsBytes (bytes_in hash)

-- the text of the digest with this hash
abbrev pub text_of : Hash → List ℕ
text_of hash = text_by (algorithm_in hash) (bytes_in hash)

-- the bytes that the encoded part of a digest's text encodes
abbrev pub bytes_of_text : List ℕ → List ℕ
bytes_of_text text = result_unwrap_or (decode_of (drop 7 text)) []

-- the hash of the digest with this text
abbrev pub hash_of_text : List ℕ → Hash
hash_of_text text = if bytes_eq (take 6 text) (codes "sha512") then code.Sha512 (bytes_of_text text) else code.Sha256 (bytes_of_text text)
