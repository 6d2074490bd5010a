-- Where a file is.
use Rattle.std.specs.Prelude.{◌≡◌, ◌⊎◌, ℕ, List, ◌∷◌, ◌++◌, codes}

-- a path is that of a file with this name in a folder
abbrev pub IsFileAt : List ℕ → List ℕ → List ℕ → Type 0
IsFileAt path folder name = (path ≡ folder ++ 47 ∷ name) ⊎ (((path ≡ 47 ∷ name) × (folder ≡ codes "/")) ⊎ ((path ≡ name) × (folder ≡ codes ".")))
