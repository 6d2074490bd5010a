-- Numbers, and the keys whose places they are.
use Rattle.std.proofs.Common.{◌≡◌, ℕ, ◌+◌, ◌<◌, Bool, true, false, cond, inl, inr, List, [], ◌∷◌, ◌++◌, length, map, take, get_or, Option, Some, refl, sym, ap, subst, ◌∙◌, arith, append-nil}
use Rattle.std.specs.List.{filter, slice_get}
use Rattle.std.proofs.lemmas.List.{map-append, take_more}
use Rattle.std.proofs.lemmas.List.Elements.{filter_more, filter-append}
use Rattle.oci_manifest.specs.Descriptor.{Descriptor}
use Rattle.oci_manifest.specs.Manifest.{first_places}
use Rattle.oci_manifest.proofs.Keys.{first_places-push}
use Rattle.oci_plan.specs.Plan.{Number}
use Rattle.oci_store.specs.Visiting.{with_key, with_keys}
use Rattle.oci_plan.specs.Fault.{Names}
use Rattle.oci_plan.specs.declared.fault.PlanFault.{PlanFault}
use Rattle.oci_store.proofs.Membership.{Keys, slice_get-with_keys, with_keys-append, with_keys-push, with_keys-grows}
use Rattle.std.proofs.lemmas.List.{length-append, take-append-drop}
use Rattle.std.proofs.Common.{drop}
use Rattle.std.proofs.lemmas.Bool.{cases_Bool}
use Rattle.oci_plan.proofs.Mets.{names_many}

pub first_two : (o p : Option Descriptor) (os ps : List (Option Descriptor)) → ◌≡◌ {A = List (Option Descriptor)} (o ∷ os) (p ∷ ps) → (o ≡ p) × (os ≡ ps)
first_two o p os ps h = (cc h, cc h)

-- keys that only grow keep their places
pub Number-grows : (ks more : Keys) (numbers : List ℕ) (named : Keys) → Number ks numbers named → Number (with_keys ks more) numbers named
Number-grows ks more [] [] h = refl
Number-grows ks more [] (k ∷ named) h = cc h
Number-grows ks more (n ∷ numbers) [] h = cc h
Number-grows ks more (n ∷ numbers) (k ∷ named) h =
    let p = first_two (slice_get ks n) (Some k) (map (slice_get ks) numbers) (map (λ (x : Descriptor). Some x) named) h in
    let first = slice_get-with_keys ks more n k p.0 in
    let rest = Number-grows ks more numbers named p.1 in
    ap (λ (o : Option Descriptor). o ∷ map (slice_get (with_keys ks more)) numbers) first ∙ ap (λ (os : List (Option Descriptor)). Some k ∷ os) rest

-- one more number, and its key
pub Number-push : (ks : Keys) (numbers : List ℕ) (named : Keys) (n : ℕ) (k : Descriptor) → Number ks numbers named → slice_get ks n ≡ Some k → Number ks (numbers ++ n ∷ []) (named ++ k ∷ [])
Number-push ks numbers named n k h at =
    map-append (slice_get ks) numbers (n ∷ []) ∙ ap (λ (os : List (Option Descriptor)). os ++ slice_get ks n ∷ []) h ∙ ap (λ (o : Option Descriptor). map (λ (x : Descriptor). Some x) named ++ o ∷ []) at
    ∙ sym (map-append (λ (x : Descriptor). Some x) named (k ∷ []))

-- the next of a list of numbers, and its key
pub Number-more : (ks : Keys) (numbers : List ℕ) (named : Keys) (i n : ℕ) (k : Descriptor) → i < length numbers → n ≡ get_or numbers i 0 → Number ks (take i numbers) named → slice_get ks n ≡ Some k → Number ks (take (i + 1) numbers) (named ++ k ∷ [])
Number-more ks numbers named i n k lt is h at =
    subst (λ (ns : List ℕ). Number ks ns (named ++ k ∷ [])) (sym (take_more numbers i 0 lt)) (Number-push ks (take i numbers) named (get_or numbers i 0) k h (subst (λ (m : ℕ). slice_get ks m ≡ Some k) is at))

-- ---- a filter, one key further

pub filter-passes : (p : Descriptor → Bool) (ks : Keys) (i : ℕ) (k : Descriptor) → i < length ks → k ≡ get_or ks i k → p k ≡ true → filter p (take (i + 1) ks) ≡ filter p (take i ks) ++ k ∷ []
filter-passes p ks i k lt is passes =
    filter_more p ks i k lt ∙ ap (λ (x : Descriptor). filter p (take i ks) ++ cond (p x) (x ∷ []) []) (sym is) ∙ ap (λ (b : Bool). filter p (take i ks) ++ cond b (k ∷ []) []) passes

pub filter-drops : (p : Descriptor → Bool) (ks : Keys) (i : ℕ) (k : Descriptor) → i < length ks → k ≡ get_or ks i k → p k ≡ false → filter p (take (i + 1) ks) ≡ filter p (take i ks)
filter-drops p ks i k lt is drops =
    filter_more p ks i k lt ∙ ap (λ (x : Descriptor). filter p (take i ks) ++ cond (p x) (x ∷ []) []) (sym is) ∙ ap (λ (b : Bool). filter p (take i ks) ++ cond b (k ∷ []) []) drops ∙ append-nil (filter p (take i ks))

-- the passing keys of a list, each at its first place, one key further
pub places_more : (p : Descriptor → Bool) (held ks : Keys) (i : ℕ) (k : Descriptor) → i < length ks → k ≡ get_or ks i k → held ≡ first_places (filter p (take i ks))
    → cond (p k) (with_key held k) held ≡ first_places (filter p (take (i + 1) ks))
places_more p held ks i k lt is h =
    elim (cases_Bool (p k)) [
      | inl passes ↦ rw passes (ap (λ (t : Keys). with_key t k) h ∙ sym (first_places-push (filter p (take i ks)) k) ∙ ap first_places (sym (filter-passes p ks i k lt is passes)))
      | inr drops ↦ rw drops (h ∙ ap first_places (sym (filter-drops p ks i k lt is drops)))
    ]

-- ---- numbers for the keys that pass

-- what holds after so many keys: the passing ones went to the end, and their numbers are told
pub record IsNumbered (p : Descriptor → Bool) (old ks successors : Keys) (numbers : List ℕ) (i : ℕ) : Type 0 where
  pub keys : ks ≡ with_keys old (filter p (take i successors))
  pub names : Number ks numbers (filter p (take i successors))

pub numbered_more : (p : Descriptor → Bool) (old before after successors : Keys) (numbers : List ℕ) (i n : ℕ) (k : Descriptor) → i < length successors → k ≡ get_or successors i k → p k ≡ true
    → before ≡ with_keys old (filter p (take i successors)) → Number before numbers (filter p (take i successors))
    → after ≡ with_key before k → slice_get after n ≡ Some k → IsNumbered p old after successors (numbers ++ n ∷ []) (i + 1)
numbered_more p old before after successors numbers i n k lt is passes keys names grown at =
    let step = filter-passes p successors i k lt is passes in
    let grows : Number after numbers (filter p (take i successors)) = subst (λ (t : Keys). Number t numbers (filter p (take i successors))) (sym grown) (Number-grows before (k ∷ []) numbers (filter p (take i successors)) names) in
    record {
      keys = grown ∙ ap (λ (t : Keys). with_key t k) keys ∙ sym (with_keys-push old (filter p (take i successors)) k) ∙ ap (with_keys old) (sym step);
      names = subst (λ (t : Keys). Number after (numbers ++ n ∷ []) t) (sym step) (Number-push after numbers (filter p (take i successors)) n k grows at);
    }

-- too many keys after some of the successors are too many after all of them
pub names_many-all : (p : Descriptor → Bool) (old before successors : Keys) (i : ℕ) (k : Descriptor) (e : PlanFault) → i < length successors → k ≡ get_or successors i k → p k ≡ true
    → before ≡ with_keys old (filter p (take i successors)) → Names (λ _. ⊥) (λ _. ⊥) (4294967295 < length (with_key before k)) e → Names (λ _. ⊥) (λ _. ⊥) (4294967295 < length (with_keys old (filter p successors))) e
names_many-all p old before successors i k e lt is passes keys h =
    let step = filter-passes p successors i k lt is passes in
    let front : with_key before k ≡ with_keys old (filter p (take (i + 1) successors)) = ap (λ (t : Keys). with_key t k) keys ∙ sym (with_keys-push old (filter p (take i successors)) k) ∙ ap (with_keys old) (sym step) in
    let whole : filter p successors ≡ filter p (take (i + 1) successors) ++ filter p (drop (i + 1) successors) = ap (filter p) (sym (take-append-drop (i + 1) successors)) ∙ filter-append p (take (i + 1) successors) (drop (i + 1) successors) in
    let all : with_keys old (filter p successors) ≡ with_keys (with_key before k) (filter p (drop (i + 1) successors)) =
    ap (with_keys old) whole ∙ with_keys-append old (filter p (take (i + 1) successors)) (filter p (drop (i + 1) successors)) ∙ ap (λ (t : Keys). with_keys t (filter p (drop (i + 1) successors))) (sym front) in
    let grows = with_keys-grows (with_key before k) (filter p (drop (i + 1) successors)) in
    names_many _ _ _ (with_key before k) e (λ many. subst (λ (t : Keys). 4294967295 < length t) (sym (all ∙ grows.1)) (omega (arith, many, length-append (with_key before k) grows.0))) h
