-- A test of algorithms that goes over the bytes once.
use Rattle.std.proofs.Common.{◌≡◌, ◌≢◌, ℕ, ◌&&◌, Bool, true, false, cond, inl, inr, List, [], ◌∷◌, ◌++◌, Decides, Option, Bor, MatchOption, lit<, refl, ap, ◌∙◌, arith}
use Rattle.std.specs.List.{All, AllPass, AllByRecursion, flat_map}
use Rattle.std.proofs.lemmas.Str.Pattern.{IsSplitOnceResult, split_after}
use Rattle.std.proofs.lemmas.List.Elements.{All-cons, All-head, All-nil, All-tail}
use Rattle.std.proofs.lemmas.Bool.{and_parts, cases_Bool}
use Rattle.std.proofs.lemmas.Bool.Decides.{nat_tests}
use Rattle.oci_digest.specs.Grammar.{is_component_char, is_separator, IsComponent, IsFurther, IsAlgorithm, Splits}

-- whether a text goes on an algorithm, after a component or at the start of one
abbrev pub algorithm_from : Bool → List ℕ → Bool
algorithm_from after [] = after
algorithm_from after (c ∷ cs) = cond (is_component_char c) (algorithm_from true cs) (after && (is_separator c && algorithm_from false cs))

-- the rest of a component, and what is joined to it
record IsRest (s : List ℕ) : Type 0 where
  front : List ℕ
  more : List (ℕ × List ℕ)
  text : s ≡ front ++ flat_map (λ p. p.0 ∷ p.1) more
  chars : AllPass is_component_char front
  are_further : AllByRecursion IsFurther more

abbrev passes : ℕ → Type 0
passes c = is_component_char c ≡ true

separator_apart : (c : ℕ) → is_separator c ≡ true → is_component_char c ≡ false
separator_apart c h = grind (arith, nat_tests)

abbrev Found : Bool → List ℕ → Type 0
Found true s = IsRest s
Found false s = IsAlgorithm s

-- the component goes on
longer : (after : Bool) (c : ℕ) (cs : List ℕ) → is_component_char c ≡ true → IsRest cs → Found after (c ∷ cs)
longer true c cs h r = record { front = c ∷ r.front; more = r.more; text = ap (λ (t : List ℕ). c ∷ t) r.text; chars = All-cons passes c r.front h r.chars; are_further = r.are_further }
longer false c cs h r = record {
  first = c ∷ r.front;
  more = r.more;
  text = ap (λ (t : List ℕ). c ∷ t) r.text;
  is_component = record { nonempty = λ e. cc e; chars = All-cons passes c r.front h r.chars };
  are_further = r.are_further;
}

-- the component ends at a separator
joined : (after : Bool) (c : ℕ) (cs : List ℕ) → after ≡ true → is_separator c ≡ true → IsAlgorithm cs → Found after (c ∷ cs)
joined true c cs e h a = record {
  front = [];
  more = (c, a.first) ∷ a.more;
  text = ap (λ (t : List ℕ). c ∷ t) a.text;
  chars = All-nil passes;
  are_further = ((h, a.is_component), a.are_further);
}
joined false c cs e h a = cc e

found_from : (after : Bool) (s : List ℕ) → algorithm_from after s ≡ true → Found after s
found_from true [] h = record { front = []; more = []; text = refl; chars = All-nil passes; are_further = tt }
found_from false [] h = cc h
found_from after (c ∷ cs) h =
    elim (cases_Bool (is_component_char c)) [
      | inl letter ↦ longer after c cs letter (found_from true cs (rw letter at h))
      | inr other ↦
          let parts = and_parts after (is_separator c && algorithm_from false cs) (rw other at h) in
          let rest = and_parts (is_separator c) (algorithm_from false cs) parts.1 in
          joined after c cs parts.0 rest.0 (found_from false cs rest.1)
    ]

front_passes : (front tail : List ℕ) → AllPass is_component_char front → algorithm_from true tail ≡ true → algorithm_from true (front ++ tail) ≡ true
front_passes [] tail h t = t
front_passes (c ∷ front) tail h t =
    let here : is_component_char c ≡ true = All-head passes c front h in
    rw here (front_passes front tail (All-tail passes c front h) t)

component_passes : (s tail : List ℕ) → IsComponent s → algorithm_from true tail ≡ true → algorithm_from false (s ++ tail) ≡ true
component_passes [] tail h t = absurd (h.nonempty refl)
component_passes (c ∷ front) tail h t =
    let here : is_component_char c ≡ true = All-head passes c front h.chars in
    rw here (front_passes front tail (All-tail passes c front h.chars) t)

more_passes : (more : List (ℕ × List ℕ)) → AllByRecursion IsFurther more → algorithm_from true (flat_map (λ p. p.0 ∷ p.1) more) ≡ true
more_passes [] h = refl
more_passes (p ∷ more) h =
    let sep : is_separator p.0 ≡ true = h.0.0 in
    let apart : is_component_char p.0 ≡ false = separator_apart p.0 sep in
    rw (apart, sep) (component_passes p.1 _ h.0.1 (more_passes more h.1))

pub Decides-algorithm_from : (s : List ℕ) → Decides (algorithm_from false s) (IsAlgorithm s)
Decides-algorithm_from s = (
  found_from false s,
  λ a. ap (algorithm_from false) a.text ∙ component_passes a.first _ a.is_component (more_passes a.more a.are_further),
)

pub no_colon : (after : Bool) (s : List ℕ) → algorithm_from after s ≡ true → All (λ (c : ℕ). c ≢ 58) s
no_colon after [] h = All-nil (λ (c : ℕ). c ≢ 58)
no_colon after (c ∷ cs) h =
    elim (cases_Bool (is_component_char c)) [
      | inl letter ↦ All-cons (λ (c : ℕ). c ≢ 58) c cs (grind (arith, nat_tests)) (no_colon true cs (rw letter at h))
      | inr other ↦
          let parts = and_parts after (is_separator c && algorithm_from false cs) (rw other at h) in
          let rest = and_parts (is_separator c) (algorithm_from false cs) parts.1 in
          let sep : is_separator c ≡ true = rest.0 in
          All-cons (λ (c : ℕ). c ≢ 58) c cs (grind (arith, nat_tests)) (no_colon false cs rest.1)
    ]

-- an algorithm holds no colon, so the first colon of a digest's text ends it
pub parts_of_digest : (text algorithm encoded : List ℕ) (r : Option (Bor (List ℕ) × Bor (List ℕ))) → IsSplitOnceResult 58 text r → Splits text algorithm encoded
    → MatchOption r ⊥ (λ x. (x.0.now ≡ algorithm) × (x.1.now ≡ encoded))
parts_of_digest text algorithm encoded r split d =
    split_after 58 text algorithm encoded r split (lit< tt) d.joined (λ i h. no_colon false algorithm ((Decides-algorithm_from algorithm).1 d.is_algorithm) i 0 h)
