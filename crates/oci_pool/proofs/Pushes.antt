-- What holds of each result once one more is pushed.
use Rattle.std.proofs.Common.{ℕ, zero, suc, ◌+◌, ◌<◌, List, [], ◌∷◌, ◌++◌, length, get_or, arith}

pub push_each : {X : Type 0} (P : ℕ → X → Type 0) (xs : List X) (x : X) → ((k : ℕ) (d : X) → k < length xs → P k (get_or xs k d)) → P (length xs) x → (k : ℕ) (d : X) → k < length xs + 1 → P k (get_or (xs ++ x ∷ []) k d)
push_each P [] x before last zero d lt = last
push_each P [] x before last (suc k) d lt = absurd (omega (arith, lt))
push_each P (y ∷ ys) x before last zero d lt = before zero d (omega arith)
push_each P (y ∷ ys) x before last (suc k) d lt = push_each (λ j. P (suc j)) ys x (λ j e l. before (suc j) e (omega (arith, l))) last k d (omega (arith, lt))
