-- When a text is not a digest, and why.
use Rattle.std.specs.Prelude.{◌≡◌, ◌≢◌, ℕ, List, Result, Ok, Err}
use Rattle.oci_digest.specs.Grammar.{IsDigestText, Splits}
use Rattle.oci_digest.specs.Algorithm.{Algorithm, name_of, IsEncodedBy}
use Rattle.oci_digest.specs.Digest.{IsDigest}
use Rattle.oci_digest.specs.declared.fault.DigestFault.{DigestFault}
use Rattle.oci_digest.specs.declared.fault.DigestFault.TheVariants.{BadForm, UnknownAlgorithm, BadEncoding}

-- the text does not match the grammar
abbrev pub IsBadForm : List ℕ → Type 0
IsBadForm text = ¬ (IsDigestText text)

-- the text matches the grammar, but its algorithm is unknown
abbrev pub HasUnknownAlgorithm : List ℕ → Type 0
HasUnknownAlgorithm text = (algorithm : List ℕ) × (encoded : List ℕ) × Splits text algorithm encoded × ((a : Algorithm) → algorithm ≢ name_of a)

-- the text matches the grammar and its algorithm is known, but its encoded part does not fit this
-- algorithm
abbrev pub HasBadEncoding : List ℕ → Type 0
HasBadEncoding text = (a : Algorithm) × (encoded : List ℕ) × Splits text (name_of a) encoded × ¬ (IsEncodedBy a encoded)

-- the result of parsing a text: its digest, or the error that applies to it
abbrev pub Parses : List ℕ → Result (List ℕ) DigestFault → Type 0
Parses text (Ok digest) = IsDigest text × (digest ≡ text)
Parses text (Err BadForm) = IsBadForm text
Parses text (Err UnknownAlgorithm) = HasUnknownAlgorithm text
Parses text (Err BadEncoding) = HasBadEncoding text
