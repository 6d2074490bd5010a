-- The grammar of digest texts (OCI image specification 1.1, descriptor.md, "Digests"), on lists of
-- bytes.
use Rattle.std.specs.Prelude.{◌≡◌, ◌≢◌, ℕ, ◌==◌, ◌&&◌, ◌||◌, nat_le, Bool, true, List, [], ◌∷◌, ◌++◌, length}
use Rattle.std.specs.List.{AllPass, AllByRecursion, flat_map}

-- a character of a component, [a-z0-9]: `a` to `z` are 97 to 122, and `0` to `9` are 48 to 57
abbrev pub is_component_char : ℕ → Bool
is_component_char c = nat_le 97 c && nat_le c 122 || nat_le 48 c && nat_le c 57

-- a separator of components: one of + . _ -
abbrev pub is_separator : ℕ → Bool
is_separator c = c == 43 || c == 46 || c == 95 || c == 45

-- a character of the encoded part, [a-zA-Z0-9=_-]: `A` to `Z` are 65 to 90
abbrev pub is_encoded_char : ℕ → Bool
is_encoded_char c = nat_le 97 c && nat_le c 122 || nat_le 65 c && nat_le c 90 || nat_le 48 c && nat_le c 57 || c == 61 || c == 95 || c == 45

-- a lower-case hexadecimal digit, [a-f0-9]
abbrev pub is_lower_hex : ℕ → Bool
is_lower_hex c = nat_le 97 c && nat_le c 102 || nat_le 48 c && nat_le c 57

-- component ::= [a-z0-9]+
pub record IsComponent (s : List ℕ) : Type 0 where
  pub nonempty : s ≢ []
  pub chars : AllPass is_component_char s

-- a further component of an algorithm: a separator, then the component
abbrev pub IsFurther : ℕ × List ℕ → Type 0
IsFurther p = (is_separator p.0 ≡ true) × IsComponent p.1

-- algorithm ::= component (separator component)*
pub record IsAlgorithm (s : List ℕ) : Type 0 where
  pub first : List ℕ
  pub more : List (ℕ × List ℕ)
  pub text : s ≡ first ++ flat_map (λ p. p.0 ∷ p.1) more
  pub is_component : IsComponent first
  pub are_further : AllByRecursion IsFurther more

-- encoded ::= [a-zA-Z0-9=_-]+
pub record IsEncoded (s : List ℕ) : Type 0 where
  pub nonempty : s ≢ []
  pub chars : AllPass is_encoded_char s

-- the text is this algorithm, a colon (58) and this encoded part
pub record Splits (text algorithm encoded : List ℕ) : Type 0 where
  pub joined : text ≡ algorithm ++ 58 ∷ encoded
  pub is_algorithm : IsAlgorithm algorithm
  pub is_encoded : IsEncoded encoded

-- digest ::= algorithm ":" encoded
abbrev pub IsDigestText : List ℕ → Type 0
IsDigestText text = (algorithm : List ℕ) × (encoded : List ℕ) × Splits text algorithm encoded

-- `count` characters of [a-f0-9]
pub record IsLowerHex (count : ℕ) (s : List ℕ) : Type 0 where
  pub len : length s ≡ count
  pub chars : AllPass is_lower_hex s
