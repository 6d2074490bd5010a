-- Each step keeps the rule.
use Rattle.std.proofs.Common.{◌≡◌, ℕ, zero, suc, ◌+◌, List, [], ◌∷◌, ◌++◌, set, refl, sym, ap, arith}
use mathlib.Core.Option.{some, some-injective, some-ne-none}
use lib.ListN.{get_elem?}
use Rattle.crossbeam_deque.specs.Tasks.{Pushes, Takes, Admits}
use Rattle.oci_pool.specs.declared.deque.rule.Tally.{Tally}
use Rattle.oci_pool.specs.Balance.{tally, times, total, IsBalanced}

pub times_append : (x : ℕ) (xs ys : List ℕ) → times x (xs ++ ys) ≡ times x xs + times x ys
times_append x [] ys = omega arith
times_append x (z ∷ xs) ys = let e = times_append x xs ys in omega arith

pub total_snoc : (f : Tally → ℕ) (vs : List Tally) (w : Tally) → total f (vs ++ w ∷ []) ≡ total f vs + f w
total_snoc f [] w = omega arith
total_snoc f (v ∷ vs) w = let e = total_snoc f vs w in omega arith

pub total_set : (f : Tally → ℕ) (views : List Tally) (port : ℕ) (v w : Tally) → get_elem? views port ≡ some v → total f (set views port w) + f v ≡ total f views + f w
total_set f [] port v w at = absurd (some-ne-none v (sym at))
total_set f (u ∷ us) zero v w at = let e : f u ≡ f v = ap f (some-injective _ _ at) in omega arith
total_set f (u ∷ us) (suc port) v w at = let e = total_set f us port v w at in omega arith

pub begins : IsBalanced [] (tally [] [] ∷ [])
begins x = refl

pub admits : Admits IsBalanced (tally [] [])
admits items views fair x = let a = total_snoc (λ v. times x v.put) views (tally [] []) in let b = total_snoc (λ v. times x v.taken) views (tally [] []) in let h = fair x in omega arith

pub puts : (port : ℕ) (v : Tally) (xs : List ℕ) → Pushes IsBalanced port v xs (λ w. w ≡ tally (v.put ++ xs) v.taken)
puts port v xs items views fair at =
    let w = tally (v.put ++ xs) v.taken in (
      w,
      (λ x.
          let a = total_set (λ u. times x u.put) views port v w at in
          let b = total_set (λ u. times x u.taken) views port v w at in
          let h = fair x in
          omega (arith, times_append x v.put xs, times_append x items xs)),
      refl,
    )

pub takes : (port : ℕ) (v : Tally) → Takes IsBalanced port v 1 (λ xs w. w ≡ tally v.put (v.taken ++ xs))
takes port v xs items views _ _ fair at =
    let w = tally v.put (v.taken ++ xs) in (
      w,
      (λ x.
          let a = total_set (λ u. times x u.put) views port v w at in
          let b = total_set (λ u. times x u.taken) views port v w at in
          let h = fair x in
          omega (arith, times_append x v.taken xs, times_append x xs items)),
      refl,
    )
