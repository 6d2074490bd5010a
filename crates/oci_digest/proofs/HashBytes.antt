-- The hash of a message is so many bytes.
use Rattle.std.proofs.Common.{◌≡◌, ℕ, zero, suc, ◌*◌, ◌<◌, ◌++◌, List, [], ◌∷◌, length, slice_index, ap, arith}
use Rattle.std.specs.Int.{w32, w64, byte_at, to_be_bytes}
use Rattle.sha2.specs.Sha256 as fips256
use Rattle.sha2.specs.Sha512 as fips512
use Rattle.sha2.proofs.Facts256.{length-sha256}
use Rattle.sha2.proofs.Facts512.{length-sha512}
use Rattle.hex.specs.Hex.{IsBytes}
use Rattle.oci_digest.specs.Algorithm.{Algorithm, sha256, sha512, digits_of, hash_of}

IsBytes-nil : IsBytes []
IsBytes-nil i = omega arith

pub IsBytes-cons : (b : ℕ) (bytes : List ℕ) → b < 256 → IsBytes bytes → IsBytes (b ∷ bytes)
IsBytes-cons b bytes h hs zero = h
IsBytes-cons b bytes h hs (suc i) = hs i

IsBytes-append : (xs ys : List ℕ) → IsBytes xs → IsBytes ys → IsBytes (xs ++ ys)
IsBytes-append [] ys hx hy = hy
IsBytes-append (x ∷ xs) ys hx hy = IsBytes-cons x (xs ++ ys) (hx 0) (IsBytes-append xs ys (λ i. hx (suc i)) hy)

-- the lowest four bytes of a number, high byte first
IsBytes-low : (n : ℕ) → IsBytes (byte_at 3 n ∷ byte_at 2 n ∷ byte_at 1 n ∷ byte_at 0 n ∷ [])
IsBytes-low n =
    IsBytes-cons (byte_at 3 n) (byte_at 2 n ∷ byte_at 1 n ∷ byte_at 0 n ∷ []) (omega arith) (
    IsBytes-cons (byte_at 2 n) (byte_at 1 n ∷ byte_at 0 n ∷ []) (omega arith) (
    IsBytes-cons (byte_at 1 n) (byte_at 0 n ∷ []) (omega arith) (IsBytes-cons (byte_at 0 n) [] (omega arith) IsBytes-nil)
    )
    )

IsBytes-word : (n : ℕ) → IsBytes (to_be_bytes w32 n)
IsBytes-word n = IsBytes-low n

IsBytes-long_word : (n : ℕ) → IsBytes (to_be_bytes w64 n)
IsBytes-long_word n =
    let low : List ℕ = byte_at 3 n ∷ byte_at 2 n ∷ byte_at 1 n ∷ byte_at 0 n ∷ [] in
    IsBytes-cons (byte_at 7 n) (byte_at 6 n ∷ byte_at 5 n ∷ byte_at 4 n ∷ low) (omega arith) (
    IsBytes-cons (byte_at 6 n) (byte_at 5 n ∷ byte_at 4 n ∷ low) (omega arith) (
    IsBytes-cons (byte_at 5 n) (byte_at 4 n ∷ low) (omega arith) (IsBytes-cons (byte_at 4 n) low (omega arith) (IsBytes-low n))
    )
    )

IsBytes-words : (h : List ℕ) (n : ℕ) → IsBytes (fips256.digest_bytes h n)
unfolding fips256.digest_bytes
IsBytes-words h zero = IsBytes-nil
IsBytes-words h (suc n) = IsBytes-append (fips256.digest_bytes h n) (to_be_bytes w32 (slice_index h n)) (IsBytes-words h n) (IsBytes-word (slice_index h n))

IsBytes-long_words : (h : List ℕ) (n : ℕ) → IsBytes (fips512.digest_bytes h n)
unfolding fips512.digest_bytes
IsBytes-long_words h zero = IsBytes-nil
IsBytes-long_words h (suc n) = IsBytes-append (fips512.digest_bytes h n) (to_be_bytes w64 (slice_index h n)) (IsBytes-long_words h n) (IsBytes-long_word (slice_index h n))

pub IsBytes-hash_of : (a : Algorithm) (bytes : List ℕ) → IsBytes (hash_of a bytes)
unfolding fips256.sha256 fips512.sha512
IsBytes-hash_of sha256 bytes = IsBytes-words (fips256.final_hash fips256.initial_hash_256 bytes) 8
IsBytes-hash_of sha512 bytes = IsBytes-long_words (fips512.final_hash fips512.initial_hash_512 bytes) 8

pub length-hash_of : (a : Algorithm) (bytes : List ℕ) → 2 * length (hash_of a bytes) ≡ digits_of a
length-hash_of sha256 bytes = ap (λ (n : ℕ). 2 * n) (length-sha256 bytes)
length-hash_of sha512 bytes = ap (λ (n : ℕ). 2 * n) (length-sha512 bytes)
