-- The words with which `explain` finds an error.
use Rattle.std.specs.Prelude.{◌≡◌, ◌⊎◌, ℕ, List, ◌==◌}
use Rattle.std.specs.List.{before_first}
use Rattle.std.specs.Str.Parse.{IsNumeral, digits_value, without_leading_plus}
use Rattle.oci_command_line.specs.declared.explain.Explanation.{Explanation}

-- the text before the first space
abbrev pub before_space : List ℕ → List ℕ
before_space text = before_first (λ byte. byte == 32) text

-- the text is the number n in decimal digits; a plus may stand first
abbrev pub Writes : List ℕ → ℕ → Type 0
Writes text n = IsNumeral 10 (without_leading_plus text)
    × (digits_value 10 (without_leading_plus text) ≡ n)

-- the word is the number of the explanation, or its name
abbrev pub IsAskedBy : List ℕ → Explanation → Type 0
IsAskedBy word e = Writes word e.number ⊎ (word ≡ e.name.now)
