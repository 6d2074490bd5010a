-- Lower-case hexadecimal digits are the text of some bytes, and the text of bytes is such digits.
use Rattle.std.proofs.Common.{◌≡◌, ℕ, suc, ◌+◌, ◌-◌, ◌*◌, ◌/◌, ◌%◌, ◌<◌, nat_lt, cond, List, [], ◌∷◌, length, get_or, slice_index, Ok, true, refl, sym, ap, ◌∙◌, arith}
use Rattle.std.specs.List.{AllPass}
use Rattle.std.specs.Str.{IsAscii, IsUtf8}
use Rattle.std.proofs.lemmas.Str.{IsUtf8-from_ascii}
use Rattle.std.proofs.lemmas.Str.Ascii.{IsAscii-from_all}
use Rattle.std.proofs.lemmas.List.Elements.{All-cons, All-head, All-nil, All-tail}
use Rattle.std.proofs.lemmas.Bool.Decides.{nat_tests}
use Rattle.hex.specs.Hex.{IsBytes, encode_lower, encode_with, lower_digits, decode_sized}
use Rattle.hex.proofs.HexLemmas.{decode_sized-encode_lower, length-encode_with}
use Rattle.oci_digest.specs.Grammar.{is_lower_hex, IsLowerHex}
use Rattle.oci_digest.proofs.HexOrder.{digit, lower_digit}
use Rattle.oci_digest.proofs.HashBytes.{IsBytes-cons}

abbrev value_of : ℕ → ℕ
value_of c = cond (nat_lt c 58) (c - 48) (c - 87)

value_digit : (c : ℕ) → is_lower_hex c ≡ true → (value_of c < 16) × (digit (value_of c) ≡ c)
value_digit c h = (grind (arith, nat_tests), grind (arith, nat_tests))

abbrev passes : ℕ → Type 0
passes c = is_lower_hex c ≡ true

-- an even number of digits is the text of some bytes
pub hex_bytes : (s : List ℕ) → length s % 2 ≡ 0 → AllPass is_lower_hex s → (bytes : List ℕ) × IsBytes bytes × (encode_lower bytes ≡ s)
unfolding encode_with
hex_bytes [] even h = ([], λ k. omega arith, refl)
hex_bytes (a ∷ []) even h = absurd (omega arith)
hex_bytes (a ∷ b ∷ rest) even h =
    let tail = All-tail passes a (b ∷ rest) h in
    let ha = value_digit a (All-head passes a (b ∷ rest) h) in
    let hb = value_digit b (All-head passes b rest tail) in
    let ih = hex_bytes rest (omega arith) (All-tail passes b rest tail) in
    let byte : ℕ = value_of a * 16 + value_of b in
    let high : byte / 16 ≡ value_of a = omega arith in
    let low : byte % 16 ≡ value_of b = omega arith in
    let da : slice_index lower_digits (byte / 16) ≡ a = ap (slice_index lower_digits) high ∙ lower_digit (value_of a) ha.0 ∙ ha.1 in
    let db : slice_index lower_digits (byte % 16) ≡ b = ap (slice_index lower_digits) low ∙ lower_digit (value_of b) hb.0 ∙ hb.1 in
    (byte ∷ ih.0, IsBytes-cons byte ih.0 (omega arith) ih.1, rw (da, db) (ap (λ (t : List ℕ). a ∷ b ∷ t) ih.2))

-- twice as many digits decode, and encode again
pub decode_sized-digits : (s : List ℕ) (n : ℕ) → IsLowerHex (2 * n) s → (bytes : List ℕ) × (decode_sized s n ≡ Ok bytes) × (encode_lower bytes ≡ s)
decode_sized-digits s n h =
    let len = h.len in
    let r = hex_bytes s (omega arith) h.chars in
    let twice = length-encode_with lower_digits r.0 in
    let same = ap length r.2 in
    (r.0, ap (λ t. decode_sized t n) (sym r.2) ∙ decode_sized-encode_lower r.0 n (omega (arith, twice, same, len)) r.1, r.2)

is_lower_hex-digit : (k : ℕ) → k < 16 → is_lower_hex (digit k) ≡ true
is_lower_hex-digit k lt = grind (arith, nat_tests)

is_lower_hex-lower_digits : (k : ℕ) → k < 16 → passes (slice_index lower_digits k)
is_lower_hex-lower_digits k lt = ap is_lower_hex (lower_digit k lt) ∙ is_lower_hex-digit k lt

-- the text of bytes is lower-case digits
pub AllPass-encode_lower : (bytes : List ℕ) → IsBytes bytes → AllPass is_lower_hex (encode_lower bytes)
unfolding encode_with
AllPass-encode_lower [] h = All-nil passes
AllPass-encode_lower (b ∷ rest) h =
    let byte : b < 256 = h 0 in
    let high = is_lower_hex-lower_digits (b / 16) (omega arith) in
    let low = is_lower_hex-lower_digits (b % 16) (omega arith) in
    let tail = encode_with lower_digits rest in
    All-cons passes (slice_index lower_digits (b / 16)) (slice_index lower_digits (b % 16) ∷ tail) high (
    All-cons passes (slice_index lower_digits (b % 16)) tail low (AllPass-encode_lower rest (λ i. h (suc i)))
    )

IsAscii-from_hex : (s : List ℕ) → AllPass is_lower_hex s → IsAscii s
IsAscii-from_hex s h =
    IsAscii-from_all s (λ k d lt. (let hex : is_lower_hex (get_or s k d) ≡ true = h k d lt in grind (arith, nat_tests)))

-- the text of bytes is UTF-8
pub IsUtf8-encode_lower : (bytes : List ℕ) → IsBytes bytes → IsUtf8 (encode_lower bytes)
IsUtf8-encode_lower bytes h = IsUtf8-from_ascii (encode_lower bytes) (IsAscii-from_hex (encode_lower bytes) (AllPass-encode_lower bytes h))
