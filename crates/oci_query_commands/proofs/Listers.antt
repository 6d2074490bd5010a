-- What `predecessors` lists.
use Rattle.std.proofs.Common.{◌≡◌, ℕ, List, [], ◌∷◌, length, map, Bor, refl}

-- types that are there are not none
pub some_types : (types : List (Bor (List ℕ))) → (length types ≡ 0 → ⊥) → map (λ (t : Bor (List ℕ)). t.now) types ≡ [] → ⊥
some_types [] some none = some refl
some_types (t ∷ types) some none = cc none
