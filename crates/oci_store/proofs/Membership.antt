-- Membership of keys in lists, and lists with each key at its first place.
use Rattle.std.proofs.Common.{◌≡◌, ℕ, zero, suc, ◌<◌, ◌≤◌, Bool, true, false, cond, not, ◌||◌, ◌⊎◌, inl, inr, List, [], ◌∷◌, ◌++◌, length, get_or, Some, None, refl, sym, ap, subst, ◌∙◌, append_assoc, append-nil, arith}
use Rattle.std.specs.Prelude.{Contains, find}
use Rattle.std.specs.List.{filter, flat_map, slice_get, All, IsDistinct}
use Rattle.std.proofs.lemmas.Bool.{or_cases, or_left, or_right, false≢true, both_ways, cases_order, cases_Bool}
use Rattle.std.proofs.lemmas.List.Elements.{All-nil, All-cons, All-contains}
use Rattle.std.proofs.lemmas.Map.Keys.{apart_from_distinct}
use Rattle.std.proofs.lemmas.Option.{slice_get_within, get_or_from_slice_get}
use Rattle.oci_manifest.specs.Descriptor.{Descriptor, same_key, is_among}
use Rattle.oci_manifest.specs.Manifest.{first_places}
use Rattle.oci_manifest.proofs.Keys.{Decides-same_key, is_among-others, first_places-push}
use Rattle.oci_store.specs.Visiting.{with_key, with_keys}

abbrev pub Keys : Type 0
Keys = List Descriptor

-- ---- membership

pub Contains-from_among : (ks : Keys) (k : Descriptor) → is_among ks k ≡ true → Contains ks k
Contains-from_among [] k h = cc h
Contains-from_among (j ∷ ks) k h =
    elim (or_cases (same_key j k) (is_among ks k) h) [
      | inl same ↦ (zero, omega arith, (Decides-same_key j k).0 same)
      | inr later ↦
          let c = Contains-from_among ks k later in
          (suc c.0, omega (arith, c.1), c.2)
    ]

among_at : (ks : Keys) (k : Descriptor) (i : ℕ) → i < length ks → get_or ks i k ≡ k → is_among ks k ≡ true
among_at [] k i lt e = absurd (omega (arith, lt))
among_at (j ∷ ks) k zero lt e = or_left (same_key j k) (is_among ks k) ((Decides-same_key j k).1 e)
among_at (j ∷ ks) k (suc i) lt e = or_right (same_key j k) (is_among ks k) (among_at ks k i (omega (arith, lt)) e)

pub among_from_Contains : (ks : Keys) (k : Descriptor) → Contains ks k → is_among ks k ≡ true
among_from_Contains ks k c = among_at ks k c.0 c.1 c.2

pub among-append_left : (xs ys : Keys) (k : Descriptor) → is_among xs k ≡ true → is_among (xs ++ ys) k ≡ true
among-append_left [] ys k h = cc h
among-append_left (x ∷ xs) ys k h =
    elim (or_cases (same_key x k) (is_among xs k) h) [
      | inl same ↦ or_left (same_key x k) (is_among (xs ++ ys) k) same
      | inr later ↦ or_right (same_key x k) (is_among (xs ++ ys) k) (among-append_left xs ys k later)
    ]

pub among-append_right : (xs ys : Keys) (k : Descriptor) → is_among ys k ≡ true → is_among (xs ++ ys) k ≡ true
among-append_right [] ys k h = h
among-append_right (x ∷ xs) ys k h = or_right (same_key x k) (is_among (xs ++ ys) k) (among-append_right xs ys k h)

pub among-append_cases : (xs ys : Keys) (k : Descriptor) → is_among (xs ++ ys) k ≡ true → (is_among xs k ≡ true) ⊎ (is_among ys k ≡ true)
among-append_cases [] ys k h = inr h
among-append_cases (x ∷ xs) ys k h =
    elim (or_cases (same_key x k) (is_among (xs ++ ys) k) h) [
      | inl same ↦ inl (or_left (same_key x k) (is_among xs k) same)
      | inr later ↦
          elim (among-append_cases xs ys k later) [
            | inl first ↦ inl (or_right (same_key x k) (is_among xs k) first)
            | inr second ↦ inr second
          ]
    ]

-- a kept key was there, and passes
pub among-filter : (p : Descriptor → Bool) (ks : Keys) (k : Descriptor) → is_among (filter p ks) k ≡ true → (p k ≡ true) × (is_among ks k ≡ true)
among-filter p [] k h = cc h
among-filter p (j ∷ ks) k h =
    elim (cases_Bool (p j)) [
      | inr drops ↦
          let r = among-filter p ks k (rw drops at h) in
          (r.0, or_right (same_key j k) (is_among ks k) r.1)
      | inl keeps ↦
          elim (or_cases (same_key j k) (is_among (filter p ks) k) (rw keeps at h)) [
            | inl same ↦ (subst (λ (x : Descriptor). p x ≡ true) ((Decides-same_key j k).0 same) keeps, or_left (same_key j k) (is_among ks k) same)
            | inr later ↦
                let r = among-filter p ks k later in
                (r.0, or_right (same_key j k) (is_among ks k) r.1)
          ]
    ]

-- a key that is there and passes is kept
pub among_filter_from : (p : Descriptor → Bool) (ks : Keys) (k : Descriptor) → p k ≡ true → is_among ks k ≡ true → is_among (filter p ks) k ≡ true
among_filter_from p [] k passes h = cc h
among_filter_from p (j ∷ ks) k passes h =
    elim (or_cases (same_key j k) (is_among ks k) h) [
      | inl same ↦
          let keeps : p j ≡ true = subst (λ (x : Descriptor). p x ≡ true) (sym ((Decides-same_key j k).0 same)) passes in
          rw keeps (or_left (same_key j k) (is_among (filter p ks) k) same)
      | inr later ↦
          let there = among_filter_from p ks k passes later in
          elim (p j) as (λ b. is_among (cond b (j ∷ filter p ks) (filter p ks)) k ≡ true) [
            | true ↦ or_right (same_key j k) (is_among (filter p ks) k) there
            | false ↦ there
          ]
    ]

-- what one of the lists has, the joined lists have
pub among_flat_map_from : (f : Descriptor → Keys) (ks : Keys) (j k : Descriptor) → is_among ks j ≡ true → is_among (f j) k ≡ true → is_among (flat_map f ks) k ≡ true
among_flat_map_from f [] j k h there = cc h
among_flat_map_from f (i ∷ ks) j k h there =
    elim (or_cases (same_key i j) (is_among ks j) h) [
      | inl same ↦ among-append_left (f i) (flat_map f ks) k (subst (λ (x : Descriptor). is_among (f x) k ≡ true) (sym ((Decides-same_key i j).0 same)) there)
      | inr later ↦ among-append_right (f i) (flat_map f ks) k (among_flat_map_from f ks j k later there)
    ]

-- what the joined lists have, one of them has
pub among-flat_map : (f : Descriptor → Keys) (ks : Keys) (k : Descriptor) → is_among (flat_map f ks) k ≡ true → (j : Descriptor) × (is_among ks j ≡ true) × (is_among (f j) k ≡ true)
among-flat_map f [] k h = cc h
among-flat_map f (i ∷ ks) k h =
    elim (among-append_cases (f i) (flat_map f ks) k h) [
      | inl here ↦ (i, or_left (same_key i i) (is_among ks i) ((Decides-same_key i i).1 refl), here)
      | inr later ↦
          let r = among-flat_map f ks k later in
          (r.0, or_right (same_key i r.0) (is_among ks r.0) r.1, r.2)
    ]

-- ---- first places

-- the first places have the keys of the list
pub among-first_places : (ks : Keys) (k : Descriptor) → is_among (first_places ks) k ≡ is_among ks k
among-first_places [] k = refl
among-first_places (j ∷ ks) k =
    elim (cases_Bool (same_key j k)) [
      | inl same ↦ rw same refl
      | inr other ↦
          let rest : is_among (filter (λ o. not (same_key j o)) (first_places ks)) k ≡ is_among ks k = is_among-others j k (first_places ks) other ∙ among-first_places ks k in
          ap (λ (b : Bool). same_key j k || b) rest
    ]

-- the first places of a longer list are those of the list, with the new keys at the end
pub first_places-append : (xs ys : Keys) → first_places (xs ++ ys) ≡ with_keys (first_places xs) ys
first_places-append xs [] = ap first_places (append-nil xs)
first_places-append xs (y ∷ ys) =
    ap first_places (sym (append_assoc xs (y ∷ []) ys)) ∙ first_places-append (xs ++ y ∷ []) ys ∙ ap (λ (t : Keys). with_keys t ys) (first_places-push xs y)

-- one more key after more keys
pub with_keys-push : (ks more : Keys) (k : Descriptor) → with_keys ks (more ++ k ∷ []) ≡ with_key (with_keys ks more) k
with_keys-push ks [] k = refl
with_keys-push ks (j ∷ more) k = with_keys-push (with_key ks j) more k

-- with more keys a list only grows at its end
pub with_keys-grows : (ks more : Keys) → (added : Keys) × (with_keys ks more ≡ ks ++ added)
with_keys-grows ks [] = ([], sym (append-nil ks))
with_keys-grows ks (k ∷ more) =
    let r = with_keys-grows (with_key ks k) more in
    elim (cases_Bool (is_among ks k)) [
      | inl there ↦
          let e : with_key ks k ≡ ks = rw there refl in
          (r.0, r.1 ∙ ap (λ (t : Keys). t ++ r.0) e)
      | inr new ↦
          let e : with_key ks k ≡ ks ++ k ∷ [] = rw new refl in
          (k ∷ r.0, r.1 ∙ ap (λ (t : Keys). t ++ r.0) e ∙ append_assoc ks (k ∷ []) r.0)
    ]

-- a key that was added is there, and so is each that was there before
there-with_key : (ks : Keys) (k : Descriptor) → is_among (with_key ks k) k ≡ true
there-with_key ks k =
    elim (cases_Bool (is_among ks k)) [
      | inl there ↦
          let same : with_key ks k ≡ ks = rw there refl in
          subst (λ (t : Keys). is_among t k ≡ true) (sym same) there
      | inr new ↦
          let more : with_key ks k ≡ ks ++ k ∷ [] = rw new refl in
          subst (λ (t : Keys). is_among t k ≡ true) (sym more) (among-append_right ks (k ∷ []) k (or_left (same_key k k) (is_among [] k) ((Decides-same_key k k).1 refl)))
    ]

pub stays-with_keys : (ks more : Keys) (k : Descriptor) → is_among ks k ≡ true → is_among (with_keys ks more) k ≡ true
stays-with_keys ks more k h =
    let r = with_keys-grows ks more in
    subst (λ (t : Keys). is_among t k ≡ true) (sym r.1) (among-append_left ks r.0 k h)

pub there-with_keys : (ks more : Keys) (k : Descriptor) → is_among more k ≡ true → is_among (with_keys ks more) k ≡ true
there-with_keys ks [] k h = cc h
there-with_keys ks (j ∷ more) k h =
    elim (or_cases (same_key j k) (is_among more k) h) [
      | inl same ↦ stays-with_keys (with_key ks j) more k (subst (λ (x : Descriptor). is_among (with_key ks j) x ≡ true) ((Decides-same_key j k).0 same) (there-with_key ks j))
      | inr later ↦ there-with_keys (with_key ks j) more k later
    ]

-- ---- the first that passes

pub find-Some : (p : Descriptor → Bool) (ks : Keys) (k : Descriptor) → find p ks ≡ Some k → (p k ≡ true) × (is_among ks k ≡ true)
find-Some p [] k h = cc h
find-Some p (j ∷ ks) k h =
    elim (cases_Bool (p j)) [
      | inl passes ↦
          let same : j ≡ k = cc (rw passes at h) in
          (subst (λ (x : Descriptor). p x ≡ true) same passes, or_left (same_key j k) (is_among ks k) ((Decides-same_key j k).1 same))
      | inr fails ↦
          let r = find-Some p ks k (rw fails at h) in
          (r.0, or_right (same_key j k) (is_among ks k) r.1)
    ]

pub find_agree : (p q : Descriptor → Bool) → ((k : Descriptor) → p k ≡ q k) → (ks : Keys) → find p ks ≡ find q ks
find_agree p q same [] = refl
find_agree p q same (k ∷ ks) = rw (same k, find_agree p q same ks) refl

-- ---- what holds of each key

pub All-from_among : (P : Descriptor → Type 0) (ks : Keys) → ((k : Descriptor) → is_among ks k ≡ true → P k) → All P ks
All-from_among P [] h = All-nil P
All-from_among P (k ∷ ks) h =
    All-cons P k ks (h k (or_left (same_key k k) (is_among ks k) ((Decides-same_key k k).1 refl))) (All-from_among P ks (λ j there. h j (or_right (same_key k j) (is_among ks j) there)))

pub All-among : (P : Descriptor → Type 0) (ks : Keys) (k : Descriptor) → All P ks → is_among ks k ≡ true → P k
All-among P ks k h there = All-contains P ks k h (Contains-from_among ks k there)

-- ---- more keys

pub with_keys-append : (ks xs ys : Keys) → with_keys ks (xs ++ ys) ≡ with_keys (with_keys ks xs) ys
with_keys-append ks [] ys = refl
with_keys-append ks (x ∷ xs) ys = with_keys-append (with_key ks x) xs ys

among-with_key : (ks : Keys) (k j : Descriptor) → is_among (with_key ks k) j ≡ true → (is_among ks j ≡ true) ⊎ (same_key k j ≡ true)
among-with_key ks k j h =
    elim (cases_Bool (is_among ks k)) [
      | inl there ↦ inl (rw there at h)
      | inr new ↦
          elim (among-append_cases ks (k ∷ []) j (rw new at h)) [
            | inl old ↦ inl old
            | inr last ↦
                elim (or_cases (same_key k j) false last) [
                  | inl same ↦ inr same
                  | inr never ↦ absurd (false≢true never)
                ]
          ]
    ]

-- a key of the longer list was there, or is one of those that came
pub among-with_keys : (ks more : Keys) (j : Descriptor) → is_among (with_keys ks more) j ≡ true → (is_among ks j ≡ true) ⊎ (is_among more j ≡ true)
among-with_keys ks [] j h = inl h
among-with_keys ks (k ∷ more) j h =
    elim (among-with_keys (with_key ks k) more j h) [
      | inr later ↦ inr (or_right (same_key k j) (is_among more j) later)
      | inl before ↦
          elim (among-with_key ks k j before) [
            | inl old ↦ inl old
            | inr same ↦ inr (or_left (same_key k j) (is_among more j) same)
          ]
    ]

-- ---- places

pub slice_get-append_left : (ks more : Keys) (i : ℕ) (k : Descriptor) → slice_get ks i ≡ Some k → slice_get (ks ++ more) i ≡ Some k
slice_get-append_left [] more i k h = cc h
slice_get-append_left (j ∷ ks) more zero k h = h
slice_get-append_left (j ∷ ks) more (suc i) k h = slice_get-append_left ks more i k h

pub slice_get-with_keys : (ks more : Keys) (i : ℕ) (k : Descriptor) → slice_get ks i ≡ Some k → slice_get (with_keys ks more) i ≡ Some k
slice_get-with_keys ks more i k h =
    let r = with_keys-grows ks more in
    subst (λ (t : Keys). slice_get t i ≡ Some k) (sym r.1) (slice_get-append_left ks r.0 i k h)

pub slice_get-push : (ks : Keys) (k : Descriptor) → slice_get (ks ++ k ∷ []) (length ks) ≡ Some k
slice_get-push [] k = refl
slice_get-push (j ∷ ks) k = slice_get-push ks k

pub slice_get-push_cases : (ks : Keys) (k j : Descriptor) (i : ℕ) → slice_get (ks ++ k ∷ []) i ≡ Some j → (slice_get ks i ≡ Some j) ⊎ ((i ≡ length ks) × (k ≡ j))
slice_get-push_cases [] k j zero h = inr (refl, cc h)
slice_get-push_cases [] k j (suc i) h = cc h
slice_get-push_cases (x ∷ ks) k j zero h = inl h
slice_get-push_cases (x ∷ ks) k j (suc i) h =
    elim (slice_get-push_cases ks k j i h) [
      | inl old ↦ inl old
      | inr last ↦ inr (ap suc last.0, last.1)
    ]

pub among_from_place : (ks : Keys) (i : ℕ) (k : Descriptor) → slice_get ks i ≡ Some k → is_among ks k ≡ true
among_from_place [] i k h = cc h
among_from_place (j ∷ ks) zero k h =
    let same : j ≡ k = cc h in
    or_left (same_key j k) (is_among ks k) ((Decides-same_key j k).1 same)
among_from_place (j ∷ ks) (suc i) k h = or_right (same_key j k) (is_among ks k) (among_from_place ks i k h)

pub place_from_among : (ks : Keys) (k : Descriptor) → is_among ks k ≡ true → (i : ℕ) × (slice_get ks i ≡ Some k)
place_from_among [] k h = cc h
place_from_among (j ∷ ks) k h =
    elim (cases_Bool (same_key j k)) [
      | inl same ↦ (zero, ap (λ (x : Descriptor). Some x) ((Decides-same_key j k).0 same))
      | inr other ↦
          let r = place_from_among ks k (rw other at h) in
          (suc r.0, r.1)
    ]

pub past_from_none : (ks : Keys) (i : ℕ) → slice_get ks i ≡ None → length ks ≤ i
past_from_none [] i h = omega arith
past_from_none (k ∷ ks) zero h = cc h
past_from_none (k ∷ ks) (suc i) h = omega (arith, past_from_none ks i h)

-- a key has one place where no key stands twice
pub one_place : (ks : Keys) (i j : ℕ) (k : Descriptor) → IsDistinct same_key ks → slice_get ks i ≡ Some k → slice_get ks j ≡ Some k → i ≡ j
one_place ks i j k distinct at_i at_j =
    elim (cases_order i j) [
      | inl same ↦ same
      | inr apart ↦
          elim apart [
            | inl before ↦ absurd (twice i j at_i at_j before)
            | inr after ↦ absurd (twice j i at_j at_i after)
          ]
    ]
  where
    twice : (m n : ℕ) → slice_get ks m ≡ Some k → slice_get ks n ≡ Some k → m < n → ⊥
    twice m n at_m at_n lt =
        let differ = apart_from_distinct same_key ks m n k distinct lt (slice_get_within ks n k at_n) in
        let m_is = get_or_from_slice_get ks m k k at_m in
        let n_is = get_or_from_slice_get ks n k k at_n in
        both_ways (same_key (get_or ks m k) (get_or ks n k)) differ ((Decides-same_key (get_or ks m k) (get_or ks n k)).1 (m_is ∙ sym n_is))
