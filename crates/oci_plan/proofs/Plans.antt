-- What a finished walk and an order of its lists make: a plan, or a cycle of keys.
use Rattle.std.proofs.Common.{◌≡◌, ℕ, zero, suc, ◌+◌, ◌-◌, ◌<◌, true, false, not, ◌⊎◌, inl, inr, List, [], ◌∷◌, length, map, take, get_or, eqb, Option, Some, None, refl, sym, ap, subst, ◌∙◌, arith}
use Rattle.std.specs.Prelude.{Contains, filter_map}
use Rattle.std.specs.Global.{Vec}
use Rattle.std.specs.List.{filter, slice_get, cons_option, All, AllZip, AllByRecursion, IsDistinct}
use Rattle.std.proofs.lemmas.Bool.{both_ways, eqb-true, cases_lt, or_left, or_right, cases_Bool}
use Rattle.std.proofs.lemmas.List.{length-map, get_or_past, get_or_default}
use Rattle.std.proofs.lemmas.List.Elements.{All-weaker, All-contains, All-contains_itself}
use Rattle.std.proofs.lemmas.Map.Keys.{IsDistinct-head, IsDistinct-tail, IsDistinct-from_apart}
use Rattle.std.proofs.lemmas.Option.{slice_get_within, get_or_from_slice_get, slice_get-get_or}
use Rattle.oci_manifest.specs.Descriptor.{Descriptor, same_key, is_among}
use Rattle.oci_manifest.proofs.Keys.{Decides-same_key}
use Rattle.oci_store.specs.Keyed.{has_key}
use Rattle.oci_store.specs.Content.{Entry}
use Rattle.oci_store.specs.Graph.{Node, nodes_of, IsEdge}
use Rattle.oci_plan.specs.Graph.{lists_of, successors_of, without_doubles, HasEdge, IsGraph, IsCycle}
use Rattle.oci_plan.specs.Order.{Ordered, IsOrder}
use Rattle.oci_plan.specs.Met.{IsMet, IsListedUnder}
use Rattle.oci_plan.specs.Outside.{IsToBring, IsCycleAlong}
use Rattle.oci_plan.specs.Visiting.{successors_at, is_fresh, IsWithin, IsOnlyInDestination, IsSoundItem}
use Rattle.oci_plan.specs.declared.gathering.Existing.{Existing}
use Rattle.oci_plan.specs.Plan.{Number, HasEdges, FollowsListed}
use Rattle.oci_plan.specs.Refusal.{IsListedCycle, IsCycleToBring}
use Rattle.oci_plan.specs.Walk.{IsListOf, IsPassed, IsGathered}
use Rattle.oci_store.proofs.Membership.{Keys, Contains-from_among, among-filter, among_filter_from, among_from_place, place_from_among, All-from_among, All-among, one_place}
use Rattle.oci_plan.proofs.Visits.{successors_at-edge}
use Rattle.oci_plan.proofs.Names.{first_two}
use Rattle.oci_plan.proofs.Walks.{sound_item}

-- ---- numbers and the keys that they name

pub Number-length : (ks : Keys) (numbers : List ℕ) (named : Keys) → Number ks numbers named → length numbers ≡ length named
Number-length ks numbers named h = sym (length-map numbers (slice_get ks)) ∙ ap length h ∙ length-map named (λ (x : Descriptor). Some x)

-- the key at a place is that of the number there
Number-at : (ks : Keys) (numbers : List ℕ) (named : Keys) (i : ℕ) (k : Descriptor) → Number ks numbers named → slice_get named i ≡ Some k → slice_get ks (get_or numbers i 0) ≡ Some k
Number-at ks numbers [] i k h at = cc at
Number-at ks [] (x ∷ named) i k h at = cc h
Number-at ks (n ∷ numbers) (x ∷ named) zero k h at =
    let p = first_two (slice_get ks n) (Some x) (map (slice_get ks) numbers) (map (λ (y : Descriptor). Some y) named) h in
    p.0 ∙ at
Number-at ks (n ∷ numbers) (x ∷ named) (suc i) k h at =
    let p = first_two (slice_get ks n) (Some x) (map (slice_get ks) numbers) (map (λ (y : Descriptor). Some y) named) h in
    Number-at ks numbers named i k p.1 at

-- each of the numbers has its key among the named ones
named_at : (ks : Keys) (numbers : List ℕ) (named : Keys) (n i : ℕ) → Number ks numbers named → i < length numbers → get_or numbers i n ≡ n → (k : Descriptor) × (slice_get ks n ≡ Some k) × (is_among named k ≡ true)
named_at ks [] named n i h lt is = absurd (omega (arith, lt))
named_at ks (m ∷ numbers) [] n i h lt is = cc h
named_at ks (m ∷ numbers) (x ∷ named) n zero h lt is =
    let p = first_two (slice_get ks m) (Some x) (map (slice_get ks) numbers) (map (λ (y : Descriptor). Some y) named) h in
    (x, ap (slice_get ks) (sym is) ∙ p.0, or_left (same_key x x) (is_among named x) ((Decides-same_key x x).1 refl))
named_at ks (m ∷ numbers) (x ∷ named) n (suc i) h lt is =
    let p = first_two (slice_get ks m) (Some x) (map (slice_get ks) numbers) (map (λ (y : Descriptor). Some y) named) h in
    let r = named_at ks numbers named n i p.1 (omega (arith, lt)) is in
    (r.0, r.1, or_right (same_key x r.0) (is_among named r.0) r.2)

pub named_number : (ks : Keys) (numbers : List ℕ) (named : Keys) (n : ℕ) → Number ks numbers named → Contains numbers n → (k : Descriptor) × (slice_get ks n ≡ Some k) × (is_among named k ≡ true)
named_number ks numbers named n h there = named_at ks numbers named n there.0 h there.1 there.2

-- each of the named keys has its number there
pub numbered_key : (ks : Keys) (numbers : List ℕ) (named : Keys) (k : Descriptor) → Number ks numbers named → is_among named k ≡ true → (n : ℕ) × Contains numbers n × (slice_get ks n ≡ Some k)
numbered_key ks numbers named k h there =
    let at = place_from_among named k there in
    let within : at.0 < length numbers = omega (arith, slice_get_within named at.0 k at.1, Number-length ks numbers named h) in
    (get_or numbers at.0 0, (at.0, within, get_or_default numbers at.0 (get_or numbers at.0 0) 0 within), Number-at ks numbers named at.0 k h at.1)

-- a number whose key is none of the named ones is none of the numbers
other_numbers : (ks : Keys) (n : ℕ) (k : Descriptor) (numbers : List ℕ) (named : Keys) → slice_get ks n ≡ Some k → Number ks numbers named → AllByRecursion (λ y. same_key k y ≡ false) named
    → filter (λ m. not (eqb n m)) numbers ≡ numbers
other_numbers ks n k [] named at h apart = refl
other_numbers ks n k (m ∷ numbers) [] at h apart = cc h
other_numbers ks n k (m ∷ numbers) (x ∷ named) at h apart =
    let p = first_two (slice_get ks m) (Some x) (map (slice_get ks) numbers) (map (λ (y : Descriptor). Some y) named) h in
    let rest = other_numbers ks n k numbers named at p.1 apart.1 in
    elim (cases_Bool (eqb n m)) [
      | inr other ↦ rw (other, rest) refl
      | inl same ↦
          let e : n ≡ m = eqb-true n m same in
          let keys : k ≡ x = cc (sym at ∙ ap (slice_get ks) e ∙ p.0) in
          absurd (both_ways (same_key k x) apart.0 ((Decides-same_key k x).1 keys))
    ]

-- numbers of distinct keys are distinct
pub without_doubles-same : (ks : Keys) (numbers : List ℕ) (named : Keys) → Number ks numbers named → IsDistinct same_key named → without_doubles numbers ≡ numbers
without_doubles-same ks [] named h distinct = refl
without_doubles-same ks (n ∷ numbers) [] h distinct = cc h
without_doubles-same ks (n ∷ numbers) (k ∷ named) h distinct =
    let p = first_two (slice_get ks n) (Some k) (map (slice_get ks) numbers) (map (λ (y : Descriptor). Some y) named) h in
    let rest = without_doubles-same ks numbers named p.1 (IsDistinct-tail same_key k named distinct) in
    ap (λ (t : List ℕ). n ∷ filter (λ m. not (eqb n m)) t) rest
    ∙ ap (λ (t : List ℕ). n ∷ t) (other_numbers ks n k numbers named p.0 p.1 (IsDistinct-head same_key k named distinct))

-- the key of one of some numbers is among the keys of these
pub among-filter_map : (ks : Keys) (numbers : List ℕ) (n i : ℕ) (k : Descriptor) → i < length numbers → get_or numbers i n ≡ n → slice_get ks n ≡ Some k → is_among (filter_map (slice_get ks) numbers) k ≡ true
among-filter_map ks [] n i k lt is at = absurd (omega (arith, lt))
among-filter_map ks (m ∷ numbers) n zero k lt is at =
    let here : slice_get ks m ≡ Some k = ap (slice_get ks) is ∙ at in
    rw here (or_left (same_key k k) (is_among (filter_map (slice_get ks) numbers) k) ((Decides-same_key k k).1 refl))
among-filter_map ks (m ∷ numbers) n (suc i) k lt is at = skip (slice_get ks m) (among-filter_map ks numbers n i k (omega (arith, lt)) is at)
  where
    skip : (o : Option Descriptor) → is_among (filter_map (slice_get ks) numbers) k ≡ true → is_among (cons_option o (filter_map (slice_get ks) numbers)) k ≡ true
    skip None h = h
    skip (Some x) h = or_right (same_key x k) (is_among (filter_map (slice_get ks) numbers) k) h

-- ---- lists by number

same_length : {A B : Type 0} (R : A → B → Type 0) (xs : List A) (ys : List B) → AllZip R xs ys → length xs ≡ length ys
same_length R [] [] h = refl
same_length R [] (y ∷ ys) h = absurd h
same_length R (x ∷ xs) [] h = absurd h
same_length R (x ∷ xs) (y ∷ ys) h = ap suc (same_length R xs ys h.1)

-- what pairs the items of two lists pairs those of one place
paired : {A B : Type 0} (R : A → B → Type 0) (xs : List A) (ys : List B) (i : ℕ) (x : A) → AllZip R xs ys → slice_get xs i ≡ Some x → (y : B) × (slice_get ys i ≡ Some y) × R x y
paired R [] ys i x h at = cc at
paired R (a ∷ xs) [] i x h at = absurd h
paired {A} R (a ∷ xs) (y ∷ ys) zero x h at =
    let same : a ≡ x = cc at in
    (y, refl, subst (λ (z : A). R z y) same h.0)
paired R (a ∷ xs) (y ∷ ys) (suc i) x h at = paired R xs ys i x h.1 at

successors_of-at : (lists : List (Vec ℕ)) (n : ℕ) (v : Vec ℕ) → slice_get lists n ≡ Some v → successors_of (lists_of lists) n ≡ v.items
successors_of-at [] n v at = cc at
successors_of-at (l ∷ lists) zero v at =
    let same : l ≡ v = cc at in
    ap (λ (x : Vec ℕ). x.items) same
successors_of-at (l ∷ lists) (suc n) v at = successors_of-at lists n v at

doubles-at : (lists : List (Vec ℕ)) (n : ℕ) (v : Vec ℕ) → slice_get lists n ≡ Some v → successors_of (map without_doubles (lists_of lists)) n ≡ without_doubles v.items
doubles-at [] n v at = cc at
doubles-at (l ∷ lists) zero v at =
    let same : l ≡ v = cc at in
    ap (λ (x : Vec ℕ). without_doubles x.items) same
doubles-at (l ∷ lists) (suc n) v at = doubles-at lists n v at

module _ (honest : Type 0) (existing : Existing) (entries : List Entry) (held : List Node) (roots : Keys) (limit : ℕ) (keys : Keys) (lists : List (Vec ℕ)) (walk : IsGathered honest existing entries held roots limit keys lists) (distinct : IsDistinct same_key keys) where
  abbrev source : List Node
  source = nodes_of entries

  pub lists_length : length lists ≡ length keys
  lists_length = sym (same_length (IsListOf honest entries held keys) keys lists walk.listed)

  numbers_length : length (lists_of lists) ≡ length keys
  numbers_length = length-map lists (λ (v : Vec ℕ). v.items) ∙ lists_length

  -- the keys of the two ends of an edge
  record IsKeyEdge (m n : ℕ) : Type 0 where
    pub from : Descriptor
    pub to : Descriptor
    pub at_from : slice_get keys m ≡ Some from
    pub at_to : slice_get keys n ≡ Some to
    pub under : IsListedUnder entries from to
    pub edge : honest → IsEdge source from to

  key_edge : (m n : ℕ) → HasEdge (lists_of lists) m n → IsKeyEdge m n
  key_edge m n there =
      elim (cases_lt m (length keys)) [
        | inr past ↦
            let none : successors_of (lists_of lists) m ≡ [] = get_or_past (lists_of lists) m [] (omega (arith, past, numbers_length)) in
            absurd (nothing (subst (λ (ns : List ℕ). Contains ns n) none there))
        | inl within ↦ inside within
      ]
    where
      nothing : Contains [] n → ⊥
      nothing c = absurd (omega (arith, c.1))

      inside : m < length keys → IsKeyEdge m n
      inside within =
          let some : Descriptor = get_or keys m (record { media_type = []; digest = []; size = 0 }) in
          let at : slice_get keys m ≡ Some some = slice_get-get_or keys m (record { media_type = []; digest = []; size = 0 }) within in
          let list = paired (IsListOf honest entries held keys) keys lists m some walk.listed at in
          let told = list.2 in
          let it = named_number keys list.0.items told.named n told.numbers_name (subst (λ (ns : List ℕ). Contains ns n) (successors_of-at lists m list.0 list.1) there) in
          record {
            from = some;
            to = it.0;
            at_from = at;
            at_to = it.1;
            under = All-among (IsListedUnder entries some) told.named it.0 told.under it.2;
            edge = λ h.
                let own = ap (λ (t : Keys). is_among t it.0) (sym (told.own h)) ∙ it.2 in
                successors_at-edge source some it.0 (among-filter (is_fresh held) (successors_at source some) it.0 own).1;
          }

  is_number : (n : ℕ) (k : Descriptor) → slice_get keys n ≡ Some k → n < length (lists_of lists)
  is_number n k at = omega (arith, slice_get_within keys n k at, numbers_length)

  pub is_graph : IsGraph (lists_of lists)
  is_graph n =
      All-weaker (Contains (successors_of (lists_of lists) n)) (λ m. m < length (lists_of lists))
      (λ m there. let e = key_edge n m there in is_number m e.to e.at_to) (successors_of (lists_of lists) n) (All-contains_itself (successors_of (lists_of lists) n))

  -- ---- a cycle

  cycle_key : (numbers : List ℕ) → IsCycle (lists_of lists) numbers → (i : ℕ) → i < length numbers → (k : Descriptor) × (slice_get keys (get_or numbers i 0) ≡ Some k)
  cycle_key numbers cycle i lt =
      elim (cases_lt (i + 1) (length numbers)) [
        | inl inner ↦ let e = key_edge (get_or numbers i 0) (get_or numbers (i + 1) 0) (cycle.path i inner) in (e.from, e.at_from)
        | inr last ↦
            let e = key_edge (get_or numbers (length numbers - 1) 0) (get_or numbers 0 0) cycle.closes in
            let end : length numbers - 1 ≡ i = omega (arith, lt, last) in
            (e.from, ap (λ (j : ℕ). slice_get keys (get_or numbers j 0)) (sym end) ∙ e.at_from)
      ]

  pub cycle_numbers : (numbers : List ℕ) → IsCycle (lists_of lists) numbers → All (λ n. n < length keys) numbers
  cycle_numbers numbers cycle = λ i d lt.
      let it = cycle_key numbers cycle i lt in
      subst (λ (n : ℕ). n < length keys) (get_or_default numbers i 0 d lt) (slice_get_within keys (get_or numbers i 0) it.0 it.1)

  -- the keys of a cycle's numbers are distinct
  named_distinct : (numbers : List ℕ) (named : Keys) → IsCycle (lists_of lists) numbers → Number keys numbers named → IsDistinct same_key named
  named_distinct numbers named cycle names = IsDistinct-from_apart same_key named apart
    where
      same_len : length numbers ≡ length named
      same_len = Number-length keys numbers named names

      apart : (i j : ℕ) (d : Descriptor) → i < j → j < length named → same_key (get_or named i d) (get_or named j d) ≡ false
      apart i j d lt within =
          elim (cases_Bool (same_key (get_or named i d) (get_or named j d))) [
            | inr other ↦ other
            | inl same ↦
                let e = (Decides-same_key (get_or named i d) (get_or named j d)).0 same in
                let at_i = Number-at keys numbers named i (get_or named j d) names (slice_get-get_or named i d (omega (arith, lt, within)) ∙ ap (λ (x : Descriptor). Some x) e) in
                let at_j = Number-at keys numbers named j (get_or named j d) names (slice_get-get_or named j d within) in
                let one = one_place keys (get_or numbers i 0) (get_or numbers j 0) (get_or named j d) distinct at_i at_j in
                absurd (cycle.distinct i j 0 lt (omega (arith, within, same_len)) one)
          ]

  -- what holds of each planned key holds of those of some numbers
  of_named : (P : Descriptor → Type 0) (numbers : List ℕ) (named : Keys) → Number keys numbers named → All P keys → All P named
  of_named P numbers named names all = All-from_among P named (λ k there.
      let it = numbered_key keys numbers named k names there in
      All-among P keys k all (among_from_place keys it.0 k it.2))

  -- what holds of the keys of the two ends of each edge makes the keys of a cycle one along it
  named_along : (leads : Descriptor → Descriptor → Type 0) → ((m n : ℕ) → (e : IsKeyEdge m n) → leads e.from e.to) → (numbers : List ℕ) (named : Keys) → IsCycle (lists_of lists) numbers → Number keys numbers named → IsCycleAlong leads named
  named_along leads leading numbers named cycle names = record {
    some = omega (arith, cycle.some, same_len);
    distinct = named_distinct numbers named cycle names;
    path = λ i from to at_from at_to.
        let inner : i + 1 < length numbers = omega (arith, slice_get_within named (i + 1) to at_to, same_len) in
        joined (get_or numbers i 0) (get_or numbers (i + 1) 0) from to (key_edge (get_or numbers i 0) (get_or numbers (i + 1) 0) (cycle.path i inner)) (Number-at keys numbers named i from names at_from) (Number-at keys numbers named (i + 1) to names at_to);
    closes = λ from to at_from at_to.
        let end : length named - 1 ≡ length numbers - 1 = ap (λ (n : ℕ). n - 1) (sym same_len) in
        let at_end = subst (λ (j : ℕ). slice_get named j ≡ Some from) end at_from in
        joined (get_or numbers (length numbers - 1) 0) (get_or numbers 0 0) from to (key_edge (get_or numbers (length numbers - 1) 0) (get_or numbers 0 0) cycle.closes) (Number-at keys numbers named (length numbers - 1) from names at_end) (Number-at keys numbers named 0 to names at_to);
  }
    where
      same_len : length numbers ≡ length named
      same_len = Number-length keys numbers named names

      joined : (m n : ℕ) (from to : Descriptor) → IsKeyEdge m n → slice_get keys m ≡ Some from → slice_get keys n ≡ Some to → leads from to
      joined m n from to e at_from at_to =
          let same_from : e.from ≡ from = cc (sym e.at_from ∙ at_from) in
          let same_to : e.to ≡ to = cc (sym e.at_to ∙ at_to) in
          subst (λ (x : Descriptor). leads x to) same_from (subst (λ (x : Descriptor). leads e.from x) same_to (leading m n e))

  -- the keys of a cycle list each other
  pub cycle_listed : (numbers : List ℕ) (named : Keys) → IsCycle (lists_of lists) numbers → Number keys numbers named → IsListedCycle entries limit named
  cycle_listed numbers named cycle names = record {
    cycle = named_along (IsListedUnder entries) (λ m n e. e.under) numbers named cycle names;
    there = of_named (λ k. has_key entries k ≡ true) numbers named names (All-weaker (IsPassed honest entries limit) (λ k. has_key entries k ≡ true) (λ k passed. passed.there) keys walk.passed);
    within = of_named (IsWithin limit) numbers named names (All-weaker (IsPassed honest entries limit) (IsWithin limit) (λ k passed. passed.within) keys walk.passed);
  }

  -- none of them is held
  pub cycle_fresh : (numbers : List ℕ) (named : Keys) → Number keys numbers named → All (λ k. has_key held k ≡ false) named
  cycle_fresh numbers named names = of_named (λ k. has_key held k ≡ false) numbers named names walk.fresh

  -- each of them was met
  pub cycle_met : (numbers : List ℕ) (named : Keys) → Number keys numbers named → All (IsMet existing entries held roots) named
  cycle_met numbers named names = of_named (IsMet existing entries held roots) numbers named names walk.met

  -- none of them is a key that only the destination has
  pub cycle_spared : (numbers : List ℕ) (named : Keys) → Number keys numbers named → All (λ k. IsOnlyInDestination entries held k → ⊥) named
  cycle_spared numbers named names =
      All-weaker (λ k. has_key held k ≡ false) (λ k. IsOnlyInDestination entries held k → ⊥) (λ k new only. both_ways (has_key held k) new only.0) named (cycle_fresh numbers named names)

  -- they are a cycle of an honest source, and all of them are keys to bring
  pub cycle_first : (numbers : List ℕ) (named : Keys) → IsCycle (lists_of lists) numbers → Number keys numbers named → honest → IsCycleToBring existing entries held roots limit named
  cycle_first numbers named cycle names h = (named_along (IsEdge source) (λ m n e. e.edge h) numbers named cycle names, bring, walk.sound h)
    where
      bring : All (IsToBring existing source held roots) named
      bring = of_named (IsToBring existing source held roots) numbers named names
          (All-from_among (IsToBring existing source held roots) keys (λ k there. (walk.exactly h k).0 (Contains-from_among keys k there)))

  -- what passed its checks is sound
  pub planned_sound : honest → All (IsSoundItem entries limit) keys
  planned_sound h = All-weaker (IsPassed honest entries limit) (IsSoundItem entries limit) (sound_item honest entries limit h) keys walk.passed

  -- ---- a plan

  module _ (o : Ordered) (ordered : o.lists ≡ map without_doubles (lists_of lists)) where
    pub numbered : length o.lists ≡ length keys
    numbered = ap length ordered ∙ length-map (lists_of lists) without_doubles ∙ numbers_length

    -- the successors of a number, by their keys
    edges_at : honest → (number : ℕ) (k : Descriptor) → slice_get keys number ≡ Some k → Number keys (successors_of o.lists number) (filter (is_fresh held) (successors_at source k))
    edges_at h number k at =
        let list = paired (IsListOf honest entries held keys) keys lists number k walk.listed at in
        let told = list.2 in
        let numbers : successors_of o.lists number ≡ list.0.items =
        ap (λ (ls : List (List ℕ)). successors_of ls number) ordered ∙ doubles-at lists number list.0 list.1 ∙ without_doubles-same keys list.0.items told.named told.numbers_name told.distinct in
        subst (λ (ns : List ℕ). Number keys ns (filter (is_fresh held) (successors_at source k))) (sym numbers) (subst (λ (t : Keys). Number keys list.0.items t) (told.own h) told.numbers_name)

    pub has_edges : honest → (skipped : Keys) → HasEdges source held (record { keys = keys; order = o; skipped = skipped })
    has_edges h skipped number k at = edges_at h number k at

    pub follows_listed : honest → IsOrder o → (skipped : Keys) → FollowsListed source held (record { keys = keys; order = o; skipped = skipped })
    follows_listed h is_order skipped place number k at_place at =
        All-from_among (λ to. (has_key held to ≡ true) ⊎ Contains (filter_map (slice_get keys) (take place o.sequence)) to) (successors_at source k) (λ to there. earlier to there)
      where
        at_number : get_or o.sequence place 0 ≡ number
        at_number = get_or_from_slice_get o.sequence place number 0 at_place

        before : All (Contains (take place o.sequence)) (successors_of o.lists number)
        before = subst (λ (n : ℕ). All (Contains (take place o.sequence)) (successors_of o.lists n)) at_number (is_order.topological.follows place (slice_get_within o.sequence place number at_place))

        earlier : (to : Descriptor) → is_among (successors_at source k) to ≡ true → (has_key held to ≡ true) ⊎ Contains (filter_map (slice_get keys) (take place o.sequence)) to
        earlier to there =
            elim (cases_Bool (has_key held to)) [
              | inl there' ↦ inl there'
              | inr none ↦
                  let passes : is_fresh held to ≡ true = rw none refl in
                  let it = numbered_key keys (successors_of o.lists number) (filter (is_fresh held) (successors_at source k)) to (edges_at h number k at) (among_filter_from (is_fresh held) (successors_at source k) to passes there) in
                  let stands = All-contains (Contains (take place o.sequence)) (successors_of o.lists number) it.0 before it.1 in
                  inr (Contains-from_among (filter_map (slice_get keys) (take place o.sequence)) to (among-filter_map keys (take place o.sequence) it.0 stands.0 to stands.1 stands.2 it.2))
            ]
