-- `parse` accepts the digests and no other text.
use Rattle.std.proofs.Common.{◌≡◌, ◌≢◌, ◌↔◌, ℕ, ◌==◌, ◌&&◌, ◌||◌, ◌<◌, Bool, true, false, inl, inr, List, [], ◌∷◌, ◌++◌, length, take, drop, codes, get_or, Decides, Result, Ok, Err, refl, sym, ap, ◌∙◌, arith}
use Rattle.std.specs.Prelude.{is_ok, IsOk}
use Rattle.std.specs.List.{All, list_all}
use Rattle.std.specs.Str.{bytes_eq}
use Rattle.std.proofs.Math.Bool.{or-true}
use Rattle.std.proofs.lemmas.Bool.{and_parts, or_cases, eqb-true}
use Rattle.std.proofs.lemmas.Bool.Decides.{nat_tests, same_from_decides}
use Rattle.std.proofs.lemmas.List.{take-append-drop}
use Rattle.std.proofs.lemmas.List.Elements.{All-head, All-tail}
use Rattle.std.proofs.lemmas.List.Sums.{AllPass-from_list_all, list_all-from_AllPass}
use Rattle.std.proofs.lemmas.Slice.Eq.{bytes_eq-Decides}
use Rattle.oci_digest.specs.Grammar.{Splits, IsAlgorithm, IsEncoded, IsLowerHex, is_lower_hex}
use Rattle.oci_digest.specs.Algorithm.{Algorithm, sha256, sha512, name_of, digits_of, IsEncodedBy}
use Rattle.oci_digest.specs.Digest.{IsDigest, is_digest, is_digest_by}
use Rattle.oci_digest.specs.Refusals.{IsBadForm, HasUnknownAlgorithm, HasBadEncoding, Parses}
use Rattle.oci_digest.specs.declared.fault.DigestFault.{DigestFault}
use Rattle.oci_digest.specs.declared.fault.DigestFault.TheVariants.{BadForm, UnknownAlgorithm, BadEncoding}
use Rattle.oci_digest.proofs.Algorithms.{Decides-algorithm_from, no_colon}

-- so many digits after this beginning of 7 characters
abbrev follows : List ℕ → ℕ → List ℕ → Bool
follows front count text = bytes_eq (take 7 text) front && (length (drop 7 text) == count) && list_all is_lower_hex (drop 7 text)

digits_after : (front : List ℕ) (count : ℕ) (text : List ℕ) → follows front count text ≡ true → (text ≡ front ++ drop 7 text) × IsLowerHex count (drop 7 text)
digits_after front count text h =
    let a = and_parts (bytes_eq (take 7 text) front && (length (drop 7 text) == count)) (list_all is_lower_hex (drop 7 text)) h in
    let b = and_parts (bytes_eq (take 7 text) front) (length (drop 7 text) == count) a.0 in
    let same : take 7 text ≡ front = (bytes_eq-Decides (take 7 text) front).0 b.0 in (
      sym (take-append-drop 7 text) ∙ ap (λ x. x ++ drop 7 text) same,
      record { len = eqb-true (length (drop 7 text)) count b.1; chars = AllPass-from_list_all is_lower_hex (drop 7 text) a.1 },
    )

-- the text of a digest by this algorithm
abbrev IsDigestBy : Algorithm → List ℕ → Type 0
IsDigestBy a text = (encoded : List ℕ) × (text ≡ name_of a ++ 58 ∷ encoded) × IsEncodedBy a encoded

digest_by_test : (a : Algorithm) (text : List ℕ) → is_digest_by a text ≡ true → IsDigestBy a text
digest_by_test sha256 text h = (let found = digits_after (codes "sha256:") 64 text h in (drop 7 text, found.0, found.1))
digest_by_test sha512 text h = (let found = digits_after (codes "sha512:") 128 text h in (drop 7 text, found.0, found.1))

test_of_digest : (a : Algorithm) (text : List ℕ) → IsDigestBy a text → is_digest_by a text ≡ true
test_of_digest sha256 text d =
    let len = d.2.len in
    let chars = list_all-from_AllPass is_lower_hex d.0 d.2.chars in
    rw (d.1, len, chars) refl
test_of_digest sha512 text d =
    let len = d.2.len in
    let chars = list_all-from_AllPass is_lower_hex d.0 d.2.chars in
    rw (d.1, len, chars) refl

test_of_some : (a : Algorithm) (text : List ℕ) → is_digest_by a text ≡ true → (is_digest_by sha256 text || is_digest_by sha512 text) ≡ true
test_of_some sha256 text h = rw h refl
test_of_some sha512 text h = rw h (or-true (is_digest_by sha256 text))

pub Decides-is_digest : (text : List ℕ) → Decides (is_digest text) (IsDigest text)
unfolding is_digest
Decides-is_digest text = (
  λ h.
      elim (or_cases (is_digest_by sha256 text) (is_digest_by sha512 text) h) [
        | inl short ↦ (let d = digest_by_test sha256 text short in (sha256, d.0, d.1, d.2))
        | inr long ↦ (let d = digest_by_test sha512 text long in (sha512, d.0, d.1, d.2))
      ],
  λ d. test_of_some d.0 text (test_of_digest d.0 text (d.1, d.2, d.3)),
)

-- an algorithm ends at the first colon
cut : (a b x y : List ℕ) → a ++ 58 ∷ x ≡ b ++ 58 ∷ y → All (λ (c : ℕ). c ≢ 58) a → All (λ (c : ℕ). c ≢ 58) b → (a ≡ b) × (x ≡ y)
cut [] [] x y e ha hb = (refl, cc e)
cut [] (c ∷ b) x y e ha hb = absurd (All-head (λ (c : ℕ). c ≢ 58) c b hb (cc e))
cut (c ∷ a) [] x y e ha hb = absurd (All-head (λ (c : ℕ). c ≢ 58) c a ha (cc e))
cut (c ∷ a) (d ∷ b) x y e ha hb =
    let rest = cut a b x y (cc e) (All-tail (λ (c : ℕ). c ≢ 58) c a ha) (All-tail (λ (c : ℕ). c ≢ 58) d b hb) in
    let same : c ≡ d = cc e in
    (ap (λ (h : ℕ). h ∷ a) same ∙ ap (λ (t : List ℕ). d ∷ t) rest.0, rest.1)

name_is_algorithm : (a : Algorithm) → IsAlgorithm (name_of a)
name_is_algorithm sha256 = (Decides-algorithm_from (codes "sha256")).0 refl
name_is_algorithm sha512 = (Decides-algorithm_from (codes "sha512")).0 refl

pub name_of-injective : (a b : Algorithm) → name_of a ≡ name_of b → a ≡ b
name_of-injective sha256 sha256 e = refl
name_of-injective sha256 sha512 e = (let test = (bytes_eq-Decides (codes "sha256") (codes "sha512")).1 e in cc test)
name_of-injective sha512 sha256 e = (let test = (bytes_eq-Decides (codes "sha512") (codes "sha256")).1 e in cc test)
name_of-injective sha512 sha512 e = refl

colon_free : (a : List ℕ) → IsAlgorithm a → All (λ (c : ℕ). c ≢ 58) a
colon_free a h = no_colon false a ((Decides-algorithm_from a).1 h)

encoded_from_hex : (count : ℕ) (s : List ℕ) → 0 < count → IsLowerHex count s → IsEncoded s
encoded_from_hex count s some h = record { nonempty = λ e. (let len = h.len in let none = ap length e in omega arith); chars = λ k d lt. (let hex : is_lower_hex (get_or s k d) ≡ true = h.chars k d lt in grind (arith, nat_tests)) }

-- a text has one algorithm and one encoded part
pub Splits-unique : (text a x b y : List ℕ) → Splits text a x → Splits text b y → (a ≡ b) × (x ≡ y)
Splits-unique text a x b y h k = cut a b x y (sym h.joined ∙ k.joined) (colon_free a h.is_algorithm) (colon_free b k.is_algorithm)

some_digits : (a : Algorithm) → 0 < digits_of a
some_digits sha256 = omega arith
some_digits sha512 = omega arith

-- a digest is a text of the grammar
pub Splits-from_IsDigest : (text : List ℕ) (d : IsDigest text) → Splits text (name_of d.0) d.1
Splits-from_IsDigest text d = record { joined = d.2; is_algorithm = name_is_algorithm d.0; is_encoded = encoded_from_hex (digits_of d.0) d.1 (some_digits d.0) d.3 }

digest_in_form : (text : List ℕ) → IsDigest text → IsBadForm text → ⊥
digest_in_form text d h = h (name_of d.0, d.1, Splits-from_IsDigest text d)

digest_of_known : (text : List ℕ) → IsDigest text → HasUnknownAlgorithm text → ⊥
digest_of_known text d h = h.3 d.0 (Splits-unique text h.0 h.1 (name_of d.0) d.1 h.2 (Splits-from_IsDigest text d)).0

digest_well_encoded : (text : List ℕ) → IsDigest text → HasBadEncoding text → ⊥
digest_well_encoded text d h =
    let same = Splits-unique text (name_of h.0) h.1 (name_of d.0) d.1 h.2 (Splits-from_IsDigest text d) in
    let algorithm : h.0 ≡ d.0 = name_of-injective h.0 d.0 same.0 in
    h.3 (rw (algorithm, same.1) d.3)

unknown_in_form : (text : List ℕ) → HasUnknownAlgorithm text → IsBadForm text → ⊥
unknown_in_form text u h = h (u.0, u.1, u.2)

encoding_in_form : (text : List ℕ) → HasBadEncoding text → IsBadForm text → ⊥
encoding_in_form text e h = h (name_of e.0, e.1, e.2)

encoding_of_known : (text : List ℕ) → HasBadEncoding text → HasUnknownAlgorithm text → ⊥
encoding_of_known text e u = u.3 e.0 (Splits-unique text u.0 u.1 (name_of e.0) e.1 u.2 e.2).0

-- the cases exclude each other, so a text has one answer
pub Parses-unique : (text : List ℕ) (r s : Result (List ℕ) DigestFault) → Parses text r → Parses text s → r ≡ s
Parses-unique text (Ok d) (Ok e) h k = ap Ok (h.1 ∙ sym k.1)
Parses-unique text (Ok d) (Err BadForm) h k = absurd (digest_in_form text h.0 k)
Parses-unique text (Ok d) (Err UnknownAlgorithm) h k = absurd (digest_of_known text h.0 k)
Parses-unique text (Ok d) (Err BadEncoding) h k = absurd (digest_well_encoded text h.0 k)
Parses-unique text (Err BadForm) (Ok e) h k = absurd (digest_in_form text k.0 h)
Parses-unique text (Err BadForm) (Err BadForm) h k = refl
Parses-unique text (Err BadForm) (Err UnknownAlgorithm) h k = absurd (unknown_in_form text k h)
Parses-unique text (Err BadForm) (Err BadEncoding) h k = absurd (encoding_in_form text k h)
Parses-unique text (Err UnknownAlgorithm) (Ok e) h k = absurd (digest_of_known text k.0 h)
Parses-unique text (Err UnknownAlgorithm) (Err BadForm) h k = absurd (unknown_in_form text h k)
Parses-unique text (Err UnknownAlgorithm) (Err UnknownAlgorithm) h k = refl
Parses-unique text (Err UnknownAlgorithm) (Err BadEncoding) h k = absurd (encoding_of_known text k h)
Parses-unique text (Err BadEncoding) (Ok e) h k = absurd (digest_well_encoded text k.0 h)
Parses-unique text (Err BadEncoding) (Err BadForm) h k = absurd (encoding_in_form text h k)
Parses-unique text (Err BadEncoding) (Err UnknownAlgorithm) h k = absurd (encoding_of_known text h k)
Parses-unique text (Err BadEncoding) (Err BadEncoding) h k = refl

-- an answer of `parse` is this one exactly where the text has it
pub answer_is : (text : List ℕ) (r s : Result (List ℕ) DigestFault) → Parses text r → (r ≡ s) ↔ Parses text s
answer_is text r s h = (λ e. rw e at h, λ k. Parses-unique text r s h k)

-- `parse` accepts the digests and no other text
pub IsOk-from_Parses : (text : List ℕ) (r : Result (List ℕ) DigestFault) → Parses text r → IsOk r ↔ IsDigest text
IsOk-from_Parses text (Ok d) h = (λ _. h.0, λ _. refl)
IsOk-from_Parses text (Err e) h = (
  λ f. cc f,
  λ d. (let same : Ok text ≡ Err e = Parses-unique text (Ok text) (Err e) (d, refl) h in cc same),
)

pub is_ok-from_Parses : (text : List ℕ) (r : Result (List ℕ) DigestFault) → Parses text r → is_ok r ≡ is_digest text
is_ok-from_Parses text r h = same_from_decides {P = IsDigest text} (is_ok r) (is_digest text) (IsOk-from_Parses text r h) (Decides-is_digest text)
