-- Laws of digest texts.
use Rattle.std.proofs.Common.{◌≡◌, ◌↔◌, ℕ, ◌*◌, ◌||◌, Bool, true, inl, inr, List, length, Decides, refl, sym, ap, subst, ◌∙◌}
use Rattle.std.specs.Str.{bytes_eq}
use Rattle.std.proofs.Math.Bool.{or-true}
use Rattle.std.proofs.lemmas.Bool.{or_cases}
use Rattle.std.proofs.lemmas.Slice.Eq.{bytes_eq-Decides}
use Rattle.hex.specs.Hex.{IsBytes, encode_lower, lower_digits}
use Rattle.hex.proofs.HexLemmas.{length-encode_with}
use Rattle.oci_digest.specs.Algorithm.{Algorithm, sha256, sha512, name_of, digits_of, hash_of}
use Rattle.oci_digest.specs.Digest.{IsDigest, digest_by, text_by, algorithm_of, encoded_of, Verifies, verifies}
use Rattle.oci_digest.specs.Hash.{IsHash, algorithm_in, bytes_in, text_of, hash_of_text}
use Rattle.oci_digest.specs.HashLaws.{hash_of_text-text_of}
use Rattle.oci_digest.specs.declared.hash.Hash.{Hash}
use Rattle.oci_digest.specs.declared.hash.Hash.TheVariants as code
use Rattle.oci_digest.proofs.HexText.{AllPass-encode_lower}
use Rattle.oci_digest.proofs.HashBytes.{IsBytes-hash_of, length-hash_of}

-- a digest's text has its algorithm and its digits
pub algorithm_of-text_by : (a : Algorithm) (bytes : List ℕ) → algorithm_of (text_by a bytes) ≡ name_of a
algorithm_of-text_by sha256 bytes = refl
algorithm_of-text_by sha512 bytes = refl

pub encoded_of-text_by : (a : Algorithm) (bytes : List ℕ) → encoded_of (text_by a bytes) ≡ encode_lower bytes
encoded_of-text_by sha256 bytes = refl
encoded_of-text_by sha512 bytes = refl

-- the text of so many bytes is a digest
pub IsDigest-text_by : (a : Algorithm) (bytes : List ℕ) → 2 * length bytes ≡ digits_of a → IsBytes bytes → IsDigest (text_by a bytes)
IsDigest-text_by a bytes len are = (a, encode_lower bytes, refl, record { len = length-encode_with lower_digits bytes ∙ len; chars = AllPass-encode_lower bytes are })

pub IsDigest-text_of : (hash : Hash) → IsHash hash → IsDigest (text_of hash)
IsDigest-text_of hash h = IsDigest-text_by (algorithm_in hash) (bytes_in hash) h.len h.are_bytes

-- what verifies some bytes is a digest
pub IsDigest-from_Verifies : (digest bytes : List ℕ) → Verifies digest bytes → IsDigest digest
IsDigest-from_Verifies digest bytes v = subst IsDigest (sym v.2) (IsDigest-text_by v.0 (hash_of v.0 bytes) (length-hash_of v.0 bytes) (IsBytes-hash_of v.0 bytes))

verified : (a : Algorithm) (digest bytes : List ℕ) → digest ≡ digest_by a bytes → Verifies digest bytes
verified a digest bytes e = (a, ap algorithm_of e ∙ algorithm_of-text_by a (hash_of a bytes), e)

test_of_some : (a : Algorithm) (digest bytes : List ℕ) → bytes_eq digest (digest_by a bytes) ≡ true
    → (bytes_eq digest (digest_by sha256 bytes) || bytes_eq digest (digest_by sha512 bytes)) ≡ true
test_of_some sha256 digest bytes h = rw h refl
test_of_some sha512 digest bytes h = rw h (or-true (bytes_eq digest (digest_by sha256 bytes)))

pub Decides-verifies : (digest bytes : List ℕ) → Decides (verifies digest bytes) (Verifies digest bytes)
unfolding verifies
Decides-verifies digest bytes = (
  λ h.
      elim (or_cases (bytes_eq digest (digest_by sha256 bytes)) (bytes_eq digest (digest_by sha512 bytes)) h) [
        | inl short ↦ verified sha256 digest bytes ((bytes_eq-Decides digest (digest_by sha256 bytes)).0 short)
        | inr long ↦ verified sha512 digest bytes ((bytes_eq-Decides digest (digest_by sha512 bytes)).0 long)
      ],
  λ v. test_of_some v.0 digest bytes ((bytes_eq-Decides digest (digest_by v.0 bytes)).1 v.2),
)

-- equal texts are of equal hashes
pub text_of-injective : (x y : Hash) → IsHash x → IsHash y → text_of x ≡ text_of y → x ≡ y
text_of-injective x y hx hy e = sym (hash_of_text-text_of x hx) ∙ ap hash_of_text e ∙ hash_of_text-text_of y hy

-- the hash of some bytes
hash_by : Algorithm → List ℕ → Hash
hash_by sha256 bytes = code.Sha256 (hash_of sha256 bytes)
hash_by sha512 bytes = code.Sha512 (hash_of sha512 bytes)

IsHash-hash_by : (a : Algorithm) (bytes : List ℕ) → IsHash (hash_by a bytes)
unfolding hash_by
IsHash-hash_by sha256 bytes = record { len = length-hash_of sha256 bytes; are_bytes = IsBytes-hash_of sha256 bytes }
IsHash-hash_by sha512 bytes = record { len = length-hash_of sha512 bytes; are_bytes = IsBytes-hash_of sha512 bytes }

abbrev IsHashOf : List ℕ → Hash → Type 0
IsHashOf bytes hash = bytes_in hash ≡ hash_of (algorithm_in hash) bytes

IsHashOf-hash_by : (a : Algorithm) (bytes : List ℕ) → IsHashOf bytes (hash_by a bytes)
unfolding hash_by
IsHashOf-hash_by sha256 bytes = refl
IsHashOf-hash_by sha512 bytes = refl

text_of-hash_by : (a : Algorithm) (bytes : List ℕ) → text_of (hash_by a bytes) ≡ digest_by a bytes
unfolding hash_by
text_of-hash_by sha256 bytes = refl
text_of-hash_by sha512 bytes = refl

-- a digest verifies the bytes of which it keeps the hash
pub keeps_hash : (hash : Hash) (bytes : List ℕ) → IsHash hash → (bytes_in hash ≡ hash_of (algorithm_in hash) bytes) ↔ Verifies (text_of hash) bytes
keeps_hash hash bytes h = (
  λ e. verified (algorithm_in hash) (text_of hash) bytes (ap (text_by (algorithm_in hash)) e),
  λ v.
      let same : hash ≡ hash_by v.0 bytes = text_of-injective hash (hash_by v.0 bytes) h (IsHash-hash_by v.0 bytes) (v.2 ∙ sym (text_of-hash_by v.0 bytes)) in
      subst (IsHashOf bytes) (sym same) (IsHashOf-hash_by v.0 bytes),
)

-- the answer of a test of the hash is that of the digest
pub verifies_as_hash : (hash kept : Hash) (bytes : List ℕ) (answer : Bool) → IsHash hash → hash ≡ kept
    → answer ≡ bytes_eq (bytes_in kept) (hash_of (algorithm_in kept) bytes)
    → (answer ≡ true) ↔ Verifies (text_of hash) bytes
verifies_as_hash hash kept bytes answer h is e =
    let here : answer ≡ bytes_eq (bytes_in hash) (hash_of (algorithm_in hash) bytes) = rw is e in
    let test = bytes_eq-Decides (bytes_in hash) (hash_of (algorithm_in hash) bytes) in
    let keeps = keeps_hash hash bytes h in
    (λ yes. keeps.0 (test.0 (sym here ∙ yes)), λ v. here ∙ test.1 (keeps.1 v))
