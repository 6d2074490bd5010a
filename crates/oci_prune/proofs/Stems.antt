-- The parts of tags' names, and the texts that name digests.
use Rattle.std.proofs.Common.{◌≡◌, ◌≢◌, ℕ, suc, ◌<◌, ◌≤◌, ◌==◌, Bool, cond, true, false, ◌||◌, inl, inr, String, Global, List, [], ◌∷◌, ◌++◌, length, get_or, take, lit<, refl, sym, ap, ◌∙◌, arith}
use Rattle.std.specs.List.{AllPass}
use Rattle.std.specs.BTreeSet.{BTreeSet, contains_text}
use Rattle.std.specs.Str.{IsAscii, bytes_eq}
use Rattle.std.proofs.lemmas.Bool.{cases_Bool}
use Rattle.std.proofs.lemmas.Slice.Eq.{bytes_eq-Decides}
use Rattle.std.proofs.lemmas.Bool.Decides.{nat_tests}
use Rattle.std.proofs.lemmas.List.{take_all}
use Rattle.std.proofs.lemmas.List.Elements.{All-cons, All-nil}
use Rattle.std.proofs.lemmas.Str.{IsAscii-append}
use Rattle.std.proofs.lemmas.Str.Ascii.{IsAscii-from_all, IsAscii-nil}
use Rattle.oci_digest.specs.Algorithm.{Algorithm, sha256, sha512, name_of}
use Rattle.oci_digest.specs.Digest.{IsDigest, algorithm_of, encoded_of}
use Rattle.oci_digest.specs.Grammar.{is_lower_hex}
use Rattle.oci_prune.specs.Attached.{stem, dashed, cut, is_stem_of}

other_byte : (c : ℕ) → c ≢ 46 → (c == 46) ≡ false
other_byte c apart = grind (arith, nat_tests)

-- a name without a `.` is its stem
pub stem_whole : (name : List ℕ) → ((i : ℕ) → i < length name → get_or name i 0 ≢ 46) → name ≡ stem name
stem_whole [] none = refl
stem_whole (c ∷ name) none =
    let rest = stem_whole name (λ i lt. none (suc i) (omega arith)) in
    sym (ap (λ (b : Bool). cond b [] (c ∷ stem name)) (other_byte c (none 0 (omega arith))) ∙ ap (λ (t : List ℕ). c ∷ t) (sym rest))

-- the stem is what stands before the first `.`
pub stem_first : (front back : List ℕ) → ((i : ℕ) → i < length front → get_or front i 0 ≢ 46) → stem (front ++ 46 ∷ back) ≡ front
stem_first [] back none = refl
stem_first (c ∷ front) back none =
    let rest = stem_first front back (λ i lt. none (suc i) (omega arith)) in
    ap (λ (b : Bool). cond b [] (c ∷ stem (front ++ 46 ∷ back))) (other_byte c (none 0 (omega arith))) ∙ ap (λ (t : List ℕ). c ∷ t) rest

pub stem_before : (name front back : List ℕ) → name ≡ front ++ 46 ∷ back → ((i : ℕ) → i < length front → get_or front i 0 ≢ 46) → front ≡ stem name
stem_before name front back e none = sym (ap stem e ∙ stem_first front back none)

-- ---- the texts that name digests

-- a text of at most 71 bytes is its first 71
pub short_whole : (text : List ℕ) → length text ≤ 71 → text ≡ take 71 text
short_whole text le = sym (take_all 71 text le)

ascii_cons : (c : ℕ) (cs : List ℕ) → c < 128 → IsAscii cs → IsAscii (c ∷ cs)
ascii_cons c cs lt rest = IsAscii-append (c ∷ []) cs (IsAscii-from_all (c ∷ []) (All-cons (λ (b : ℕ). b < 128) c [] lt (All-nil (λ (b : ℕ). b < 128)))) rest

ascii_hex : (s : List ℕ) → AllPass is_lower_hex s → IsAscii s
ascii_hex s h = IsAscii-from_all s (λ k d lt. (let hex : is_lower_hex (get_or s k d) ≡ true = h k d lt in grind (arith, nat_tests)))

ascii_name : (a : Algorithm) → IsAscii (name_of a)
ascii_name sha256 =
    ascii_cons 115 (104 ∷ 97 ∷ 50 ∷ 53 ∷ 54 ∷ []) (lit< tt)
    (ascii_cons 104 (97 ∷ 50 ∷ 53 ∷ 54 ∷ []) (lit< tt) (ascii_cons 97 (50 ∷ 53 ∷ 54 ∷ []) (lit< tt) (ascii_cons 50 (53 ∷ 54 ∷ []) (lit< tt) (ascii_cons 53 (54 ∷ []) (lit< tt) (ascii_cons 54 [] (lit< tt) IsAscii-nil)))))
ascii_name sha512 =
    ascii_cons 115 (104 ∷ 97 ∷ 53 ∷ 49 ∷ 50 ∷ []) (lit< tt)
    (ascii_cons 104 (97 ∷ 53 ∷ 49 ∷ 50 ∷ []) (lit< tt) (ascii_cons 97 (53 ∷ 49 ∷ 50 ∷ []) (lit< tt) (ascii_cons 53 (49 ∷ 50 ∷ []) (lit< tt) (ascii_cons 49 (50 ∷ []) (lit< tt) (ascii_cons 50 [] (lit< tt) IsAscii-nil)))))

algorithm_is : (a : Algorithm) (encoded : List ℕ) → algorithm_of (name_of a ++ 58 ∷ encoded) ≡ name_of a
algorithm_is sha256 encoded = refl
algorithm_is sha512 encoded = refl

encoded_is : (a : Algorithm) (encoded : List ℕ) → encoded_of (name_of a ++ 58 ∷ encoded) ≡ encoded
encoded_is sha256 encoded = refl
encoded_is sha512 encoded = refl

pub dashed_ascii : (digest : List ℕ) → IsDigest digest → IsAscii (dashed digest)
dashed_ascii digest d =
    let algorithm : algorithm_of digest ≡ name_of d.0 = ap algorithm_of d.2 ∙ algorithm_is d.0 d.1 in
    let encoded : encoded_of digest ≡ d.1 = ap encoded_of d.2 ∙ encoded_is d.0 d.1 in
    rw (algorithm, encoded) (IsAscii-append (name_of d.0) (45 ∷ d.1) (ascii_name d.0) (ascii_cons 45 d.1 (lit< tt) (ascii_hex d.1 d.3.chars)))

-- ---- the texts of several digests

cond_or : (x y o : Bool) → cond x true (cond y true o) ≡ (o || (x || y))
cond_or true true true = refl
cond_or true true false = refl
cond_or true false true = refl
cond_or true false false = refl
cond_or false true true = refl
cond_or false true false = refl
cond_or false false true = refl
cond_or false false false = refl

bytes_eq-swap : (xs ys : List ℕ) → bytes_eq xs ys ≡ bytes_eq ys xs
bytes_eq-swap xs ys =
    elim (cases_Bool (bytes_eq ys xs)) [
      | inl same ↦ (bytes_eq-Decides xs ys).1 (sym ((bytes_eq-Decides ys xs).0 same)) ∙ sym same
      | inr apart ↦
          elim (cases_Bool (bytes_eq xs ys)) [
            | inl same ↦ cc ((bytes_eq-Decides ys xs).1 (sym ((bytes_eq-Decides xs ys).0 same)))
            | inr other ↦ other ∙ sym apart
          ]
    ]

-- what a set has after both texts that name a digest were added
pub stems_added : (old mid new : BTreeSet (String Global)) (short whole digest : List ℕ) → short ≡ cut digest → whole ≡ dashed digest → ((text : List ℕ) → contains_text mid text ≡ cond (bytes_eq short text) true (contains_text old text))
    → ((text : List ℕ) → contains_text new text ≡ cond (bytes_eq whole text) true (contains_text mid text)) → (text : List ℕ) → contains_text new text ≡ (contains_text old text || is_stem_of text digest)
stems_added old mid new short whole digest is_short is_whole first second text =
    let first_is : bytes_eq whole text ≡ bytes_eq text (dashed digest) = ap (λ (t : List ℕ). bytes_eq t text) is_whole ∙ bytes_eq-swap (dashed digest) text in
    let second_is : bytes_eq short text ≡ bytes_eq text (cut digest) = ap (λ (t : List ℕ). bytes_eq t text) is_short ∙ bytes_eq-swap (cut digest) text in
    second text ∙ ap (λ (b : Bool). cond (bytes_eq whole text) true b) (first text) ∙ cond_or (bytes_eq whole text) (bytes_eq short text) (contains_text old text)
    ∙ ap (λ (b : Bool). contains_text old text || (b || bytes_eq short text)) first_is ∙ ap (λ (b : Bool). contains_text old text || (bytes_eq text (dashed digest) || b)) second_is
