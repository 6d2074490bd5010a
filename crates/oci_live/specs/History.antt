-- The history of a live store: its entries in order of publication. It only grows.
use Rattle.std.specs.Prelude.{◌≡◌, ℕ, ◌==◌, true, List, [], ◌∷◌, ◌++◌, length, MatchBool}
use Rattle.logbook.specs.Pages.{Cell, Step, View, Book, Named}
use Rattle.oci_store.specs.Content.{Entry}

-- the first word is the length of the history
pub record IsCounted (cells : List Cell) (log : List Entry) : Type 0 where
  pub words : cells ≡ (length log, true) ∷ (0, true) ∷ []

-- the first word of a book
abbrev pub head_of : Book → Named
head_of b = record { tracked = true; key = 0; book = b }

-- if the word found is the expected one, the entry was appended to the list that had been seen; if
-- not, the list that is seen now has the length found
abbrev pub Appends : Step Entry → View Entry ℕ → ℕ → View Entry ℕ → Type 0
Appends s v found w = MatchBool (found == s.old) (w.0 ≡ v.0 ++ s.ask ∷ []) (length w.0 ≡ found)

-- the name of a store, which identifies its history
abbrev pub name_of : Book → List ℕ
name_of b = b.number ∷ b.log_name ∷ b.cells_name ∷ []
