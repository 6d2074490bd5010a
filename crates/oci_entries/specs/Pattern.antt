-- Patterns of tags, and what matches them. A pattern and a text are lists of bytes in UTF-8.
use Rattle.std.specs.Prelude.{◌≡◌, ℕ, ◌+◌, ◌≤◌, Bool, true, false, not, ◌&&◌, ◌||◌, ◌==◌, nat_le, List, [], ◌∷◌, map, filter, length, drop, get_or, Option, Some, None, if◌then◌else◌}
use Rattle.std.specs.Borrow.{Bor}
use Rattle.std.specs.List.{list_any}
use Rattle.oci_layout_store.specs.Entries.{IndexEntry}
use Rattle.oci_layout_store.specs.Saved.{no_name}
use Rattle.oci_store.specs.Tags.{Tags}

-- ---- a text and a pattern

-- whether a test holds of a text or of a part at its end, which may be empty
abbrev pub some_end : (List ℕ → Bool) → List ℕ → Bool
some_end test [] = test []
some_end test (b ∷ text) = test (b ∷ text) || some_end test text

-- whether a byte continues a character that began before it
abbrev pub continues : ℕ → Bool
continues b = nat_le 128 b && nat_le b 191

-- a text without the bytes at its beginning that continue a character
abbrev pub after_continuation : List ℕ → List ℕ
after_continuation [] = []
after_continuation (b ∷ text) = if continues b then after_continuation text else b ∷ text

-- whether a text has a first character, and what comes after it passes a test
abbrev pub after_character : (List ℕ → Bool) → List ℕ → Bool
after_character test [] = false
after_character test (b ∷ text) = test (after_continuation text)

-- whether a text begins with a byte, and what comes after it passes a test
abbrev pub after_byte : ℕ → (List ℕ → Bool) → List ℕ → Bool
after_byte p test [] = false
after_byte p test (b ∷ text) = b == p && test text

-- Whether a text, from its first byte to its last, matches a pattern. `*` (42) stands for any text, `?`
-- (63) for any one character, and each other byte for itself.
unfoldable pub matches : List ℕ → List ℕ → Bool
matches [] [] = true
matches [] (b ∷ text) = false
matches (p ∷ pattern) text = if p == 42 then some_end (matches pattern) text else (if p == 63 then after_character (matches pattern) text else after_byte p (matches pattern) text)

-- ---- what matches one of several patterns

-- whether a text matches one of these patterns; with no patterns each text does
abbrev pub matches_one : List (List ℕ) → List ℕ → Bool
matches_one [] text = true
matches_one (p ∷ patterns) text = list_any (λ pattern. matches pattern text) (p ∷ patterns)

-- the same of a name; without a name it is that of the empty text
abbrev pub matches_name : List (List ℕ) → Option (List ℕ) → Bool
matches_name patterns None = matches_one patterns []
matches_name patterns (Some name) = matches_one patterns name

-- the tags whose names match one of the patterns
abbrev pub matching_tags : List (List ℕ) → Tags → Tags
matching_tags patterns tags = filter (λ t. matches_one patterns t.0) tags

-- the tags whose names match none of the patterns
abbrev pub unmatched_tags : List (List ℕ) → Tags → Tags
unmatched_tags patterns tags = filter (λ t. not (matches_one patterns t.0)) tags

-- the entries with a name that matches one of the patterns
abbrev pub matching_entries : List (List ℕ) → List IndexEntry → List IndexEntry
matching_entries patterns entries = filter (λ (e : IndexEntry). not (no_name e.name) && matches_name patterns e.name) entries

-- ---- the code

-- the texts of patterns
abbrev pub texts_of : List (Bor (List ℕ)) → List (List ℕ)
texts_of patterns = map (λ (pattern : Bor (List ℕ)). pattern.now) patterns

-- a row has for each place of a text, the end among them, whether the text from there passes a test
pub record IsRow (test : List ℕ → Bool) (text : List ℕ) (row : List Bool) : Type 0 where
  pub len : length row ≡ length text + 1
  pub at : (i : ℕ) → i ≤ length text → get_or row i false ≡ test (drop i text)
