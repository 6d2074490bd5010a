-- One number's progress changes, and all the others stay.
use Rattle.std.proofs.Common.{◌≡◌, ◌≢◌, ℕ, ◌<◌, ◌⊎◌, inl, inr, List, length, set}
use Rattle.std.proofs.lemmas.Bool.{cases_lt}
use Rattle.std.proofs.lemmas.Bool.Decides.{eqb_tells}
use Rattle.std.proofs.lemmas.List.{get_or-set_same, get_or-set_other, get_or_past}
use Rattle.oci_plan.specs.Search.{progress_of}
use Rattle.oci_plan.specs.declared.ordering.search.Progress.{Progress}
use Rattle.oci_plan.specs.declared.ordering.search.Progress.TheVariants.{New}

-- a number is one, or another
pub same_or_other : (n m : ℕ) → (n ≡ m) ⊎ (n ≢ m)
same_or_other n m = elim (eqb_tells n m) [ inl h ↦ inl h.1 | inr h ↦ inr h.1 ]

-- what has been met is a number of the graph
pub met_below : (progress : List Progress) (n : ℕ) → progress_of progress n ≢ New → n < length progress
met_below progress n met = elim (cases_lt n (length progress)) [ inl lt ↦ lt | inr past ↦ absurd (met (get_or_past progress n New past)) ]

-- after a change at n, the number n has the new progress
pub changed : (progress : List Progress) (n : ℕ) (p : Progress) → n < length progress → progress_of (set progress n p) n ≡ p
changed progress n p below = get_or-set_same progress n p New below

-- and every other the old one
pub unchanged : (progress : List Progress) (n m : ℕ) (p : Progress) → m ≢ n → progress_of (set progress n p) m ≡ progress_of progress m
unchanged progress n m p other = get_or-set_other progress n m p New other
