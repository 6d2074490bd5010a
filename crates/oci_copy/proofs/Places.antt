-- Which keys have been pushed at a place of a plan's order.
use Rattle.std.proofs.Common.{◌≡◌, ℕ, ◌+◌, ◌<◌, ◌≤◌, ◌⊎◌, inl, inr, true, false, List, [], ◌∷◌, ◌++◌, length, get_or, take, Option, Some, None, refl, sym, ap, subst, ◌∙◌, arith, length-append}
use Rattle.std.specs.Prelude.{Contains, slice_get, filter_map}
use Rattle.std.specs.List.{All, IsDistinct}
use Rattle.std.specs.Map.{keys_of}
use Rattle.std.proofs.lemmas.Bool.{false≢true, cases_Bool, cases_order}
use Rattle.std.proofs.lemmas.List.{get_or-take, length-take-le, take_all, take_more}
use Rattle.std.proofs.lemmas.List.Elements.{All-cons, All-nil, All-weaker, All-contains, Contains-append_left, Contains-append_right, Contains-append_cases, Contains-push, All-contains_itself, filter_map-append}
use Rattle.std.proofs.lemmas.Map.Keys.{apart_from_distinct}
use Rattle.std.proofs.lemmas.Option.{slice_get_within, get_or_from_slice_get, slice_get-get_or}
use Rattle.oci_manifest.specs.Descriptor.{Descriptor, same_key}
use Rattle.oci_manifest.proofs.Keys.{Decides-same_key}
use Rattle.oci_store.specs.Keyed.{has_key, HasAll}
use Rattle.oci_store.specs.Graph.{Node}
use Rattle.oci_store.proofs.Lookups.{has_key-from_Contains, Contains-from_has_key}
use Rattle.oci_plan.specs.Order.{IsOrder}
use Rattle.oci_plan.specs.Plan.{Planned, IsPlan, FollowsListed, keys_before}
use Rattle.oci_plan.specs.Visiting.{successors_at}

pub length-keys_of : {X : Type 0} (pairs : List (Descriptor × X)) → length (keys_of pairs) ≡ length pairs
length-keys_of [] = refl
length-keys_of (p ∷ pairs) = omega (arith, length-keys_of pairs)

-- one key more is one pair more
pub length-more : {X : Type 0} (old new : List (Descriptor × X)) (k : Descriptor) → keys_of new ≡ keys_of old ++ k ∷ [] → length new ≡ length old + 1
length-more old new k keys =
    let lengths : length (keys_of new) ≡ length (keys_of old ++ k ∷ []) = ap length keys in
    omega (arith, lengths, length-append (keys_of old) (k ∷ []), length-keys_of old, length-keys_of new)

only : {X : Type 0} (x y : X) → Contains (x ∷ []) y → x ≡ y
only {X} x y c = All-contains (λ (z : X). x ≡ z) (x ∷ []) y (All-cons (λ (z : X). x ≡ z) x [] refl (All-nil (λ (z : X). x ≡ z))) c

-- what a partial map gives
pub from_filter_map : {X Y : Type 0} (f : X → Option Y) (xs : List X) (y : Y) → Contains (filter_map f xs) y → (x : X) × Contains xs x × (f x ≡ Some y)
from_filter_map f [] y c = absurd (let h : c.0 < 0 = c.1 in omega arith)
from_filter_map {X} {Y} f (x ∷ xs) y c = at (from_filter_map f xs y) (f x) refl (subst (λ (ys : List Y). Contains ys y) (filter_map-append f (x ∷ []) xs) c)
  where
    later : (Contains (filter_map f xs) y → (z : X) × Contains xs z × (f z ≡ Some y)) → Contains (filter_map f xs) y → (z : X) × Contains (x ∷ xs) z × (f z ≡ Some y)
    later rest d = let it = rest d in (it.0, Contains-append_right (x ∷ []) xs it.0 it.1, it.2)

    at : (Contains (filter_map f xs) y → (z : X) × Contains xs z × (f z ≡ Some y)) → (o : Option Y) → f x ≡ o → Contains (filter_map f (x ∷ []) ++ filter_map f xs) y → (z : X) × Contains (x ∷ xs) z × (f z ≡ Some y)
    at rest None is d = later rest (rw is at d)
    at rest (Some w) is d =
        let d' : Contains ((w ∷ []) ++ filter_map f xs) y = rw is at d in
        elim (Contains-append_cases (w ∷ []) (filter_map f xs) y d') [
          | inl here ↦ (x, Contains-append_left (x ∷ []) xs x (Contains-push [] x), is ∙ ap Some (only w y here))
          | inr there ↦ later rest there
        ]

pub to_filter_map : {X Y : Type 0} (f : X → Option Y) (xs : List X) (x : X) (y : Y) → Contains xs x → f x ≡ Some y → Contains (filter_map f xs) y
to_filter_map f [] x y c is = absurd (let h : c.0 < 0 = c.1 in omega arith)
to_filter_map {X} {Y} f (z ∷ xs) x y c is =
    subst (λ (ys : List Y). Contains ys y) (sym (filter_map-append f (z ∷ []) xs)) (elim (Contains-append_cases (z ∷ []) xs x c) [
      | inl here ↦
          let same : f z ≡ Some y = ap f (only z x here) ∙ is in
          Contains-append_left (filter_map f (z ∷ [])) (filter_map f xs) y (rw same (Contains-push [] y))
      | inr there ↦ Contains-append_right (filter_map f (z ∷ [])) (filter_map f xs) y (to_filter_map f xs x y there is)
    ])

pub Contains-from_slice_get : {X : Type 0} (xs : List X) (i : ℕ) (x : X) → slice_get xs i ≡ Some x → Contains xs x
Contains-from_slice_get xs i x h = (i, slice_get_within xs i x h, get_or_from_slice_get xs i x x h)

-- a key has one number
same_number : (ks : List Descriptor) (m n : ℕ) (k : Descriptor) → IsDistinct same_key ks → slice_get ks m ≡ Some k → slice_get ks n ≡ Some k → m ≡ n
same_number ks m n k distinct at_m at_n =
    elim (cases_order m n) [
      | inl same ↦ same
      | inr (inl less) ↦ absurd (apart m n less at_m at_n)
      | inr (inr more) ↦ absurd (apart n m more at_n at_m)
    ]
  where
    apart : (i j : ℕ) → i < j → slice_get ks i ≡ Some k → slice_get ks j ≡ Some k → ⊥
    apart i j less at_i at_j =
        let differ = apart_from_distinct same_key ks i j k distinct less (slice_get_within ks j k at_j) in
        let one : get_or ks i k ≡ k = get_or_from_slice_get ks i k k at_i in
        let two : get_or ks j k ≡ k = get_or_from_slice_get ks j k k at_j in
        let itself : same_key k k ≡ true = (Decides-same_key k k).1 refl in
        let same : same_key (get_or ks i k) (get_or ks j k) ≡ true = rw (one, two) itself in
        false≢true (sym differ ∙ same)

module _ (p : Planned) (plan : IsPlan p) (order : IsOrder p.order) where
  numbers_len : length p.order.sequence ≡ length p.keys
  numbers_len = order.topological.len ∙ plan.numbered

  -- after the key of a place, one key more has been pushed
  pub keys_before-more : (place n : ℕ) (k : Descriptor) → slice_get p.order.sequence place ≡ Some n → slice_get p.keys n ≡ Some k → keys_before (place + 1) p ≡ keys_before place p ++ k ∷ []
  keys_before-more place n k at is =
      let sequence = p.order.sequence in
      let within = slice_get_within sequence place n at in
      let number : get_or sequence place 0 ≡ n = get_or_from_slice_get sequence place n 0 at in
      let numbers : take (place + 1) sequence ≡ take place sequence ++ n ∷ [] = take_more sequence place 0 within ∙ ap (λ (m : ℕ). take place sequence ++ m ∷ []) number in
      ap (filter_map (slice_get p.keys)) numbers ∙ filter_map-append (slice_get p.keys) (take place sequence) (n ∷ []) ∙ rw is refl

  -- a key that stands later in the order is not yet held
  pub fresh_at : (opening now : List Node) (place n : ℕ) (k : Descriptor) → All (λ d. has_key opening d ≡ false) p.keys → keys_of now ≡ keys_of opening ++ keys_before place p
      → slice_get p.order.sequence place ≡ Some n → slice_get p.keys n ≡ Some k → has_key now k ≡ false
  fresh_at opening now place n k fresh keys at is =
      elim (cases_Bool (has_key now k)) [
        | inr gone ↦ gone
        | inl there_is ↦
            absurd (elim (Contains-append_cases (keys_of opening) (keys_before place p) k (subst (λ (ks : List Descriptor). Contains ks k) keys (Contains-from_has_key now k there_is))) [
              | inl old ↦
                  let gone = All-contains (λ d. has_key opening d ≡ false) p.keys k fresh (Contains-from_slice_get p.keys n k is) in
                  false≢true (sym gone ∙ has_key-from_Contains opening k old)
              | inr before ↦
                  let it = from_filter_map (slice_get p.keys) (take place p.order.sequence) k before in
                  earlier it.0 it.1 (same_number p.keys it.0 n k plan.distinct it.2 is)
            ])
      ]
    where
      earlier : (m : ℕ) → Contains (take place p.order.sequence) m → m ≡ n → ⊥
      earlier m c same =
          let sequence = p.order.sequence in
          let within = slice_get_within sequence place n at in
          let short : length (take place sequence) ≡ place = length-take-le place sequence (omega arith) in
          let less : c.0 < place = (let l = c.1 in omega (arith, short)) in
          let there : get_or sequence c.0 m ≡ m = sym (get_or-take place sequence c.0 m less) ∙ c.2 in
          let here : get_or sequence place m ≡ n = get_or_from_slice_get sequence place n m at in
          order.topological.distinct c.0 place m less within (there ∙ same ∙ sym here)

  -- at the end each key is held
  pub all_held : (opening now : List Node) (place : ℕ) → length p.keys ≤ place → keys_of now ≡ keys_of opening ++ keys_before place p → HasAll now p.keys
  all_held opening now place over keys = All-weaker (Contains p.keys) (λ k. has_key now k ≡ true) held p.keys (All-contains_itself p.keys)
    where
      held : (k : Descriptor) → Contains p.keys k → has_key now k ≡ true
      held k c =
          let sequence = p.order.sequence in
          let is : slice_get p.keys c.0 ≡ Some k = slice_get-get_or p.keys c.0 k c.1 ∙ ap Some c.2 in
          let listed = order.topological.complete c.0 (let l = c.1 in omega (arith, plan.numbered)) in
          let whole : take place sequence ≡ sequence = take_all place sequence (omega (arith, numbers_len)) in
          let there : Contains (keys_before place p) k = to_filter_map (slice_get p.keys) (take place sequence) c.0 k (subst (λ (ns : List ℕ). Contains ns c.0) (sym whole) listed) is in
          has_key-from_Contains now k (subst (λ (ks : List Descriptor). Contains ks k) (sym keys) (Contains-append_right (keys_of opening) (keys_before place p) k there))

  -- what the source lists under the key of a place is held by then
  pub ready_at : (source opening now : List Node) (place n : ℕ) (k : Descriptor) → FollowsListed source opening p → keys_of now ≡ keys_of opening ++ keys_before place p
      → slice_get p.order.sequence place ≡ Some n → slice_get p.keys n ≡ Some k → HasAll now (successors_at source k)
  ready_at source opening now place n k follows keys at is =
      All-weaker (λ to. (has_key opening to ≡ true) ⊎ Contains (keys_before place p) to) (λ to. has_key now to ≡ true) held (successors_at source k) (follows place n k at is)
    where
      held : (to : Descriptor) → (has_key opening to ≡ true) ⊎ Contains (keys_before place p) to → has_key now to ≡ true
      held to (inl old) = has_key-from_Contains now to (subst (λ (ks : List Descriptor). Contains ks to) (sym keys) (Contains-append_left (keys_of opening) (keys_before place p) to (Contains-from_has_key opening to old)))
      held to (inr before) = has_key-from_Contains now to (subst (λ (ks : List Descriptor). Contains ks to) (sym keys) (Contains-append_right (keys_of opening) (keys_before place p) to before))
