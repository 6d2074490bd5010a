-- The elements of lists that are mapped and filtered.
use Rattle.std.proofs.Common.{◌≡◌, ℕ, zero, suc, ◌+◌, ◌<◌, Bool, true, false, cond, ◌⊎◌, inl, inr, List, [], ◌∷◌, ◌++◌, length, take, get_or, map, filter, refl, sym, ap, subst, ◌∙◌, arith}
use Rattle.std.specs.Prelude.{Contains}
use Rattle.std.proofs.lemmas.Bool.{cases_Bool}
use Rattle.std.proofs.lemmas.List.{take_more}

pub no_element : {X : Type 0} (x : X) → Contains [] x → ⊥
no_element x h = omega (arith, h.1)

pub Contains-head : {X : Type 0} (x : X) (xs : List X) → Contains (x ∷ xs) x
Contains-head x xs = (0, omega arith, refl)

pub Contains-tail : {X : Type 0} (y : X) (xs : List X) (x : X) → Contains xs x → Contains (y ∷ xs) x
Contains-tail y xs x h = let within = h.1 in (suc h.0, omega arith, h.2)

place_cases : {X : Type 0} (y : X) (xs : List X) (x : X) (i : ℕ) → i < length (y ∷ xs) → get_or (y ∷ xs) i x ≡ x → (y ≡ x) ⊎ Contains xs x
place_cases y xs x zero lt is = inl is
place_cases y xs x (suc i) lt is = inr (i, omega arith, is)

pub Contains-cons : {X : Type 0} (y : X) (xs : List X) (x : X) → Contains (y ∷ xs) x → (y ≡ x) ⊎ Contains xs x
Contains-cons y xs x h = place_cases y xs x h.0 h.1 h.2

-- ---- one element more

pub next_element : {X : Type 0} (xs : List X) (i : ℕ) (x : X) → i < length xs → x ≡ get_or xs i x → take (i + 1) xs ≡ take i xs ++ x ∷ []
next_element {X} xs i x lt is = take_more xs i x lt ∙ ap (λ (y : X). take i xs ++ y ∷ []) (sym is)

-- ---- mapped and filtered

pub in_map_filter : {X Y : Type 0} (f : X → Y) (p : X → Bool) (xs : List X) (y : Y) → Contains (map f (filter p xs)) y → (x : X) × Contains xs x × (p x ≡ true) × (f x ≡ y)
in_map_filter f p [] y h = absurd (no_element y h)
in_map_filter {X} {Y} f p (x ∷ xs) y h =
    elim (cases_Bool (p x)) [
      | inl passes ↦
          elim (Contains-cons (f x) (map f (filter p xs)) y (subst (λ (b : Bool). Contains (map f (cond b (x ∷ filter p xs) (filter p xs))) y) passes h)) [
            | inl is ↦ (x, Contains-head x xs, passes, is)
            | inr later ↦
                let r = in_map_filter f p xs y later in
                (r.0, Contains-tail x xs r.0 r.1, r.2, r.3)
          ]
      | inr drops ↦
          let r = in_map_filter f p xs y (subst (λ (b : Bool). Contains (map f (cond b (x ∷ filter p xs) (filter p xs))) y) drops h) in
          (r.0, Contains-tail x xs r.0 r.1, r.2, r.3)
    ]

pub map_filter_in : {X Y : Type 0} (f : X → Y) (p : X → Bool) (xs : List X) (x : X) → Contains xs x → p x ≡ true → Contains (map f (filter p xs)) (f x)
map_filter_in f p [] x h passes = absurd (no_element x h)
map_filter_in {X} {Y} f p (y ∷ xs) x h passes =
    elim (Contains-cons y xs x h) [
      | inl is ↦
          let y_passes : p y ≡ true = subst (λ (z : X). p z ≡ true) (sym is) passes in
          subst (λ (b : Bool). Contains (map f (cond b (y ∷ filter p xs) (filter p xs))) (f x)) (sym y_passes)
          (subst (λ (z : X). Contains (f y ∷ map f (filter p xs)) (f z)) is (Contains-head (f y) (map f (filter p xs))))
      | inr later ↦
          let rest = map_filter_in f p xs x later passes in
          elim (p y) as (λ b. Contains (map f (cond b (y ∷ filter p xs) (filter p xs))) (f x)) [
            | true ↦ Contains-tail (f y) (map f (filter p xs)) (f x) rest
            | false ↦ rest
          ]
    ]
