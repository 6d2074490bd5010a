-- The walk: its start, one more key, its end, and what a refusal says.
use Rattle.std.proofs.Common.{◌≡◌, ℕ, ◌+◌, ◌<◌, ◌≤◌, Bool, true, false, cond, ◌⊎◌, inl, inr, List, [], ◌∷◌, ◌++◌, length, take, Some, Ok, refl, sym, ap, subst, ◌∙◌, arith, append-nil}
use Rattle.std.specs.Prelude.{Contains}
use Rattle.std.specs.Global.{Vec}
use Rattle.std.specs.List.{filter, slice_get, All, AllZip, IsDistinct}
use Rattle.std.proofs.lemmas.Bool.{both_ways, not-true, cases_Bool}
use Rattle.std.proofs.lemmas.List.{take_all, take_more, take-append-le}
use Rattle.std.proofs.lemmas.List.Elements.{All-nil, All-push, All-weaker, filter-append}
use Rattle.std.proofs.lemmas.Option.{slice_get_within, get_or_from_slice_get}
use Rattle.oci_manifest.specs.Descriptor.{Descriptor, same_key, is_among}
use Rattle.oci_manifest.specs.Manifest.{first_places}
use Rattle.oci_manifest.proofs.Keys.{IsDistinct-filter, IsDistinct-first_places}
use Rattle.oci_store.specs.Keyed.{has_key}
use Rattle.oci_store.specs.Content.{Entry, succ_of}
use Rattle.oci_store.specs.Graph.{Node, nodes_of}
use Rattle.oci_store.specs.Visiting.{candidates, with_keys, IsVisiting, start, next}
use Rattle.oci_plan.specs.Fault.{Names}
use Rattle.oci_plan.specs.Met.{IsMet, IsListedUnder, NamesMet}
use Rattle.oci_plan.specs.Outside.{IsToBring, IsVisited}
use Rattle.oci_plan.specs.Visiting.{successors_at, is_fresh, passes, IsOnlyInDestination, IsSoundItem, IsSoundVisit, IsNextVisited}
use Rattle.oci_plan.specs.Plan.{Number}
use Rattle.oci_plan.specs.Refusal.{IsOfKey, HasTooMany, IsFirstFault, NamesNoneOnlyInDestination}
use Rattle.oci_plan.specs.Walk.{IsListOf, IsPassed, MayPass, IsVisitPassed, IsWalk, IsGathered, held_at, visits_of, noted}
use Rattle.oci_plan.specs.declared.gathering.Existing.{Existing}
use Rattle.oci_plan.specs.declared.gathering.Existing.TheVariants.{Skip, Descend}
use Rattle.oci_plan.specs.declared.fault.PlanFault.{PlanFault}
use Rattle.oci_store.proofs.Membership.{Keys, Contains-from_among, among_from_Contains, among-filter, among_filter_from, among-first_places, first_places-append, with_keys-grows, among-append_left, among-with_keys, All-from_among, All-among, among_from_place, slice_get-with_keys}
use Rattle.oci_store.proofs.Visits.{next_visit-at, candidates-push, first_places-all}
use Rattle.oci_plan.proofs.Fresh.{fresh_more, filter-push_kept, filter-push_dropped}
use Rattle.oci_plan.proofs.Visits.{found_to_bring, visiting_visited, visited_found, to_bring, bring_visited, bring_fresh}
use Rattle.oci_plan.proofs.Mets.{names_key, names_many, once_more, all_more, met_roots, met_listed, fresh_visited, fresh_kept, numbers_met}
use Rattle.oci_plan.proofs.Names.{Number-grows}

-- ---- held keys, where they are skipped and where they are visited

-- a key to visit is held as its visit takes it to be
pub held-at : (existing : Existing) (held : List Node) (k : Descriptor) → passes existing held k ≡ true → held_at existing held k ≡ has_key held k
held-at Skip held k pass = sym (not-true (has_key held k) pass)
held-at Descend held k pass = refl

-- what is to be visited, with more that was met
pub visits_more : (existing : Existing) (held : List Node) (keys all more grown_keys grown_all : Keys) → grown_keys ≡ with_keys keys (filter (is_fresh held) more) → grown_all ≡ noted existing all more
    → visits_of existing grown_keys grown_all ≡ with_keys (visits_of existing keys all) (filter (passes existing held) more)
visits_more Skip held keys all more grown_keys grown_all is_keys is_all = is_keys
visits_more Descend held keys all more grown_keys grown_all is_keys is_all = is_all ∙ ap (with_keys all) (sym (first_places-all more))

pub visits_start : (existing : Existing) (held : List Node) (keys all met : Keys) → keys ≡ with_keys [] (filter (is_fresh held) met) → all ≡ noted existing [] met
    → visits_of existing keys all ≡ with_keys [] (filter (passes existing held) met)
visits_start Skip held keys all met is_keys is_all = is_keys
visits_start Descend held keys all met is_keys is_all = is_all ∙ ap (with_keys []) (sym (first_places-all met))

-- what passed its checks is sound, if the source is honest
pub sound_item : (honest : Type 0) (entries : List Entry) (limit : ℕ) → honest → (k : Descriptor) → IsPassed honest entries limit k → IsSoundItem entries limit k
sound_item honest entries limit h k passed =
    let it = passed.reads h in
    record {
      there = passed.there;
      within = passed.within;
      reads = λ bytes at.
          let same : it.0 ≡ bytes = cc (sym it.2 ∙ at) in
          let reads : succ_of k bytes ≡ Ok it.1 = subst (λ (b : List ℕ). succ_of k b ≡ Ok it.1) same it.3 in
          rw reads refl;
    }

-- so is a visited key that passed them or was spared them
sound_visit : (honest : Type 0) (existing : Existing) (entries : List Entry) (held : List Node) (limit : ℕ) → honest → (k : Descriptor) → IsVisitPassed honest existing entries held limit k → IsSoundVisit existing entries held limit k
sound_visit honest Skip entries held limit h k visit = go visit.may
  where
    go : MayPass honest entries (has_key held k) limit k → IsSoundItem entries limit k
    go (inl spared) = (let new = not-true (has_key held k) visit.pass in cc (sym new ∙ spared.0))
    go (inr passed) = sound_item honest entries limit h k passed
sound_visit honest Descend entries held limit h k visit = go visit.may
  where
    go : MayPass honest entries (has_key held k) limit k → IsSoundVisit Descend entries held limit k
    go (inl spared) = inl spared
    go (inr passed) = inr (sound_item honest entries limit h k passed)

-- a fault of a key that is not held, or that the source has, names no other
pub spared_of : (existing : Existing) (entries : List Entry) (held : List Node) (k : Descriptor) (e : PlanFault) → passes existing held k ≡ true
    → (held_at existing held k ≡ false) ⊎ (has_key entries k ≡ true) → IsOfKey k e → NamesNoneOnlyInDestination entries held e
spared_of existing entries held k e pass asked of_key = names_key _ _ _ k e (here asked) of_key
  where
    here : (held_at existing held k ≡ false) ⊎ (has_key entries k ≡ true) → IsOnlyInDestination entries held k → ⊥
    here (inl new) = λ only. both_ways (has_key held k) (sym (held-at existing held k pass) ∙ new) only.0
    here (inr there) = λ only. both_ways (has_key entries k) only.1 there

module _ (honest : Type 0) (existing : Existing) (entries : List Entry) (held : List Node) (roots : Keys) (limit : ℕ) where
  abbrev source : List Node
  source = nodes_of entries

  abbrev NotHeld : Descriptor → Type 0
  NotHeld k = has_key held k ≡ false

  abbrev Met : Descriptor → Type 0
  Met = IsMet existing entries held roots

  abbrev Passes : Descriptor → Type 0
  Passes k = passes existing held k ≡ true

  fresh_held : (k : Descriptor) → is_fresh held k ≡ true → NotHeld k
  fresh_held k h = not-true (has_key held k) h

  -- ---- the start

  started : (p : Descriptor → Bool) (keys : Keys) → keys ≡ with_keys [] (filter p roots) → keys ≡ first_places (filter p (candidates (successors_at source) roots []))
  started p keys h = h ∙ sym (first_places-append [] (filter p roots)) ∙ ap (λ (t : Keys). first_places (filter p t)) (sym (append-nil roots))

  pub walk_start : (all keys : Keys) → all ≡ with_keys [] (filter (passes existing held) roots) → keys ≡ with_keys [] (filter (is_fresh held) roots) → length keys ≤ 4294967295
      → IsWalk honest existing entries held roots limit all keys [] []
  walk_start all keys is_all is_keys few = record {
    few = few;
    kept = fresh_more existing held [] [] roots all keys refl is_all is_keys;
    pass = All-from_among Passes all passing;
    met = subst (All Met) (sym is_all) (all_more Met [] (filter (passes existing held) roots) (All-nil Met) (met_roots existing entries held roots (passes existing held) (λ k pass. pass)));
    once = (filter (is_fresh held) roots, places);
    has_roots = All-from_among (λ k. (has_key held k ≡ true) ⊎ Contains keys k) roots rooted;
    passed = All-nil (IsVisitPassed honest existing entries held limit);
    listed = tt;
    visiting = λ _. start;
    found = λ _. started (passes existing held) all is_all;
    found_keys = λ _. started (is_fresh held) keys is_keys;
  }
    where
      passing : (k : Descriptor) → is_among all k ≡ true → Passes k
      passing k there =
          elim (among-with_keys [] (filter (passes existing held) roots) k (ap (λ (t : Keys). is_among t k) (sym is_all) ∙ there)) [
            | inl none ↦ cc none
            | inr new ↦ (among-filter (passes existing held) roots k new).0
          ]

      places : keys ≡ first_places (filter (is_fresh held) roots)
      places = is_keys ∙ sym (first_places-append [] (filter (is_fresh held) roots))

      rooted : (k : Descriptor) → is_among roots k ≡ true → (has_key held k ≡ true) ⊎ Contains keys k
      rooted k there =
          elim (cases_Bool (has_key held k)) [
            | inl there' ↦ inl there'
            | inr none ↦
                let passes' : is_fresh held k ≡ true = rw none refl in
                inr (Contains-from_among keys k (ap (λ (t : Keys). is_among t k) places ∙ among-first_places (filter (is_fresh held) roots) k ∙ among_filter_from (is_fresh held) roots k passes' there))
          ]

  -- ---- one more key

  grown_list : (keys more : Keys) (k : Descriptor) (numbers : Vec ℕ) → IsListOf honest entries held keys k numbers → IsListOf honest entries held (with_keys keys more) k numbers
  grown_list keys more k numbers h = record { named = h.named; numbers_name = Number-grows keys more numbers.items h.named h.numbers_name; distinct = h.distinct; under = h.under; own = h.own }

  lists_grow : (keys more visited : Keys) (lists : List (Vec ℕ)) → AllZip (IsListOf honest entries held keys) visited lists → AllZip (IsListOf honest entries held (with_keys keys more)) visited lists
  lists_grow keys more [] [] h = h
  lists_grow keys more [] (l ∷ lists) h = absurd h
  lists_grow keys more (v ∷ visited) [] h = absurd h
  lists_grow keys more (v ∷ visited) (l ∷ lists) h = (grown_list keys more v l h.0, lists_grow keys more visited lists h.1)

  lists_push : (keys more visited : Keys) (lists : List (Vec ℕ)) (k : Descriptor) (numbers : Vec ℕ) → AllZip (IsListOf honest entries held keys) visited lists → IsListOf honest entries held (with_keys keys more) k numbers
      → AllZip (IsListOf honest entries held (with_keys keys more)) (visited ++ k ∷ []) (lists ++ numbers ∷ [])
  lists_push keys more [] [] k numbers h new = (new, tt)
  lists_push keys more [] (l ∷ lists) k numbers h new = absurd h
  lists_push keys more (v ∷ visited) [] k numbers h new = absurd h
  lists_push keys more (v ∷ visited) (l ∷ lists) k numbers h new = (grown_list keys more v l h.0, lists_push keys more visited lists k numbers h.1 new)

  -- a list more for a key that is not held, and none for one that is
  lists_more : (keys more visited : Keys) (lists : List (Vec ℕ)) (k : Descriptor) (numbers : Vec ℕ) → AllZip (IsListOf honest entries held keys) (filter (is_fresh held) visited) lists → IsListOf honest entries held (with_keys keys more) k numbers
      → AllZip (IsListOf honest entries held (with_keys keys more)) (filter (is_fresh held) (visited ++ k ∷ [])) (cond (has_key held k) lists (lists ++ numbers ∷ []))
  lists_more keys more visited lists k numbers h new =
      elim (cases_Bool (has_key held k)) [
        | inl there ↦
            let drops : is_fresh held k ≡ false = rw there refl in
            subst (λ (ls : List (Vec ℕ)). AllZip (IsListOf honest entries held (with_keys keys more)) (filter (is_fresh held) (visited ++ k ∷ [])) ls) (ap (λ (b : Bool). cond b lists (lists ++ numbers ∷ [])) (sym there))
            (subst (λ (vs : Keys). AllZip (IsListOf honest entries held (with_keys keys more)) vs lists) (sym (filter-push_dropped (is_fresh held) visited k drops)) (lists_grow keys more (filter (is_fresh held) visited) lists h))
        | inr none ↦
            let keeps : is_fresh held k ≡ true = rw none refl in
            subst (λ (ls : List (Vec ℕ)). AllZip (IsListOf honest entries held (with_keys keys more)) (filter (is_fresh held) (visited ++ k ∷ [])) ls) (ap (λ (b : Bool). cond b lists (lists ++ numbers ∷ [])) (sym none))
            (subst (λ (vs : Keys). AllZip (IsListOf honest entries held (with_keys keys more)) vs (lists ++ numbers ∷ [])) (sym (filter-push_kept (is_fresh held) visited k keeps)) (lists_push keys more (filter (is_fresh held) visited) lists k numbers h new))
      ]

  -- the visited keys are a visiting list with the key that follows them
  pub walk_visiting : (all keys : Keys) (lists : List (Vec ℕ)) (i : ℕ) (k : Descriptor) → IsWalk honest existing entries held roots limit all keys (take i all) lists → slice_get all i ≡ Some k
      → honest → IsVisiting (successors_at source) (passes existing held) roots (take i all ++ k ∷ [])
  walk_visiting all keys lists i k walk at h = next (walk.visiting h) (next_visit-at (successors_at source) (passes existing held) roots all i (walk.found h) ∙ at)

  -- the keys that are found once one more key is visited
  found_more : (p : Descriptor → Bool) (keys visited successors : Keys) (k : Descriptor) → keys ≡ first_places (filter p (candidates (successors_at source) roots visited)) → successors ≡ successors_at source k
      → with_keys keys (filter p successors) ≡ first_places (filter p (candidates (successors_at source) roots (visited ++ k ∷ [])))
  found_more p keys visited successors k found own =
      ap (λ (t : Keys). with_keys t (filter p successors)) found
      ∙ sym (first_places-append (filter p (candidates (successors_at source) roots visited)) (filter p successors))
      ∙ ap first_places (sym (filter-append p (candidates (successors_at source) roots visited) successors) ∙ ap (λ (t : Keys). filter p (candidates (successors_at source) roots visited ++ t)) own ∙ ap (filter p) (sym (candidates-push (successors_at source) roots visited k)))

  -- what is known of the key that is visited, and of its successors
  pub record IsNext (all keys successors grown_all grown_keys : Keys) (numbers : Vec ℕ) (k : Descriptor) : Type 0 where
    pub may : MayPass honest entries (held_at existing held k) limit k
    pub own : honest → successors ≡ successors_at source k
    pub under : All (IsListedUnder entries k) successors
    pub distinct : IsDistinct same_key successors
    pub is_all : grown_all ≡ with_keys all (filter (passes existing held) successors)
    pub is_keys : grown_keys ≡ with_keys keys (filter (is_fresh held) successors)
    pub names : Number grown_keys numbers.items (filter (is_fresh held) successors)
    pub few : length grown_keys ≤ 4294967295

  -- a key to visit is one that passes
  pub place_passes : (all keys visited : Keys) (lists : List (Vec ℕ)) (i : ℕ) (k : Descriptor) → IsWalk honest existing entries held roots limit all keys visited lists → slice_get all i ≡ Some k → passes existing held k ≡ true
  place_passes all keys visited lists i k walk at = All-among Passes all k walk.pass (among_from_place all i k at)

  -- it was met
  pub place_met : (all keys visited : Keys) (lists : List (Vec ℕ)) (i : ℕ) (k : Descriptor) → IsWalk honest existing entries held roots limit all keys visited lists → slice_get all i ≡ Some k → Met k
  place_met all keys visited lists i k walk at = All-among Met all k walk.met (among_from_place all i k at)

  -- a key that is visited, and may pass, did pass
  pub visit_passed : (all keys visited : Keys) (lists : List (Vec ℕ)) (i : ℕ) (k : Descriptor) → IsWalk honest existing entries held roots limit all keys visited lists → slice_get all i ≡ Some k
      → MayPass honest entries (held_at existing held k) limit k → IsVisitPassed honest existing entries held limit k
  visit_passed all keys visited lists i k walk at may =
      let pass = place_passes all keys visited lists i k walk at in
      record { pass = pass; may = subst (λ (b : Bool). MayPass honest entries b limit k) (held-at existing held k pass) may }

  pub walk_step : (all keys successors grown_all grown_keys : Keys) (lists grown_lists : List (Vec ℕ)) (numbers : Vec ℕ) (i : ℕ) (k : Descriptor) → IsWalk honest existing entries held roots limit all keys (take i all) lists
      → slice_get all i ≡ Some k → IsNext all keys successors grown_all grown_keys numbers k → grown_lists ≡ cond (held_at existing held k) lists (lists ++ numbers ∷ [])
      → IsWalk honest existing entries held roots limit grown_all grown_keys (take (i + 1) grown_all) grown_lists
  walk_step all keys successors grown_all grown_keys lists grown_lists numbers i k walk at new is_lists =
      subst (λ (v : Keys). IsWalk honest existing entries held roots limit grown_all grown_keys v grown_lists) (sym one_more) (record {
        few = new.few;
        kept = fresh_more existing held all keys successors grown_all grown_keys walk.kept new.is_all new.is_keys;
        pass = subst (All Passes) (sym new.is_all) (All-from_among Passes (with_keys all more_all) passing);
        met = subst (All Met) (sym new.is_all) (all_more Met all more_all walk.met (met_listed existing entries held roots (passes existing held) (λ j passes_j. passes_j) k successors (place_met all keys visited lists i k walk at) new.under));
        once = (walk.once.0 ++ more, once_more keys walk.once.0 more grown_keys walk.once.1 new.is_keys);
        has_roots = subst (λ (t : Keys). All (λ j. (has_key held j ≡ true) ⊎ Contains t j) roots) (sym new.is_keys)
            (All-weaker (λ j. (has_key held j ≡ true) ⊎ Contains keys j) (λ j. (has_key held j ≡ true) ⊎ Contains (with_keys keys more) j) rooted roots walk.has_roots);
        passed = All-push (IsVisitPassed honest existing entries held limit) visited k walk.passed (visit_passed all keys visited lists i k walk at new.may);
        listed = subst (λ (ls : List (Vec ℕ)). AllZip (IsListOf honest entries held grown_keys) (filter (is_fresh held) (visited ++ k ∷ [])) ls) (sym told_lists)
            (subst (λ (t : Keys). AllZip (IsListOf honest entries held t) (filter (is_fresh held) (visited ++ k ∷ [])) (cond (has_key held k) lists (lists ++ numbers ∷ []))) (sym new.is_keys) (lists_more keys more visited lists k numbers walk.listed list));
        visiting = walk_visiting all keys lists i k walk at;
        found = λ h. new.is_all ∙ found_more (passes existing held) all visited successors k (walk.found h) (new.own h);
        found_keys = λ h. new.is_keys ∙ found_more (is_fresh held) keys visited successors k (walk.found_keys h) (new.own h);
      })
    where
      visited : Keys
      visited = take i all

      more : Keys
      more = filter (is_fresh held) successors

      more_all : Keys
      more_all = filter (passes existing held) successors

      pass : passes existing held k ≡ true
      pass = place_passes all keys visited lists i k walk at

      told_lists : grown_lists ≡ cond (has_key held k) lists (lists ++ numbers ∷ [])
      told_lists = is_lists ∙ ap (λ (b : Bool). cond b lists (lists ++ numbers ∷ [])) (held-at existing held k pass)

      grows : (added : Keys) × (with_keys all more_all ≡ all ++ added)
      grows = with_keys-grows all more_all

      grows_keys : (added : Keys) × (with_keys keys more ≡ keys ++ added)
      grows_keys = with_keys-grows keys more

      within : i < length all
      within = slice_get_within all i k at

      at_after : slice_get grown_all i ≡ Some k
      at_after = subst (λ (t : Keys). slice_get t i ≡ Some k) (sym new.is_all) (slice_get-with_keys all more_all i k at)

      front : take i grown_all ≡ visited
      front = ap (take i) (new.is_all ∙ grows.1) ∙ take-append-le i all grows.0 (omega (arith, within))

      one_more : take (i + 1) grown_all ≡ visited ++ k ∷ []
      one_more =
          take_more grown_all i k (slice_get_within grown_all i k at_after)
          ∙ ap (λ (x : Descriptor). take i grown_all ++ x ∷ []) (get_or_from_slice_get grown_all i k k at_after) ∙ ap (λ (t : Keys). t ++ k ∷ []) front

      still : (j : Descriptor) → Contains keys j → Contains (with_keys keys more) j
      still j c = Contains-from_among (with_keys keys more) j (ap (λ (t : Keys). is_among t j) grows_keys.1 ∙ among-append_left keys grows_keys.0 j (among_from_Contains keys j c))

      passing : (j : Descriptor) → is_among (with_keys all more_all) j ≡ true → Passes j
      passing j there =
          elim (among-with_keys all more_all j there) [
            | inl old ↦ All-among Passes all j walk.pass old
            | inr new' ↦ (among-filter (passes existing held) successors j new').0
          ]

      rooted : (j : Descriptor) → (has_key held j ≡ true) ⊎ Contains keys j → (has_key held j ≡ true) ⊎ Contains (with_keys keys more) j
      rooted j (inl there) = inl there
      rooted j (inr c) = inr (still j c)

      list : IsListOf honest entries held (with_keys keys more) k numbers
      list = record {
        named = more;
        numbers_name = subst (λ (t : Keys). Number t numbers.items more) new.is_keys new.names;
        distinct = IsDistinct-filter (is_fresh held) successors new.distinct;
        under = All-from_among (IsListedUnder entries k) more (λ j there. All-among (IsListedUnder entries k) successors j new.under (among-filter (is_fresh held) successors j there).1);
        own = λ h. ap (filter (is_fresh held)) (new.own h);
      }

  -- ---- the end

  -- where all keys were visited, what is to be brought was gathered
  pub walk_end : (all keys : Keys) (lists : List (Vec ℕ)) (i : ℕ) → IsWalk honest existing entries held roots limit all keys (take i all) lists → length all ≤ i → IsGathered honest existing entries held roots limit keys lists
  walk_end all keys lists i before past = record {
    few = walk.few;
    fresh = All-from_among NotHeld keys (λ k there. fresh_held k (parts k there).0);
    has_roots = walk.has_roots;
    passed = All-from_among (IsPassed honest entries limit) keys passed;
    met = All-from_among Met keys (λ k there. All-among Met all k walk.met (parts k there).1);
    listed = subst (λ (t : Keys). AllZip (IsListOf honest entries held keys) t lists) (sym walk.kept) walk.listed;
    exactly = λ h k. (λ there. brought h k (among_from_Contains keys k there), λ bring. Contains-from_among keys k (found h k bring));
    sound = λ h k visited. sound_visit honest existing entries held limit h k (All-among (IsVisitPassed honest existing entries held limit) all k walk.passed (visited_found existing source held roots all (walk.found h) k visited));
  }
    where
      walk : IsWalk honest existing entries held roots limit all keys all lists
      walk = subst (λ (v : Keys). IsWalk honest existing entries held roots limit all keys v lists) (take_all i all past) before

      parts : (k : Descriptor) → is_among keys k ≡ true → (is_fresh held k ≡ true) × (is_among all k ≡ true)
      parts k there = among-filter (is_fresh held) all k (ap (λ (t : Keys). is_among t k) (sym walk.kept) ∙ there)

      passed : (k : Descriptor) → is_among keys k ≡ true → IsPassed honest entries limit k
      passed k there =
          elim (All-among (IsVisitPassed honest existing entries held limit) all k walk.passed (parts k there).1).may [
            | inl spared ↦ (let new = fresh_held k (parts k there).0 in cc (sym new ∙ spared.0))
            | inr did ↦ did
          ]

      brought : honest → (k : Descriptor) → is_among keys k ≡ true → IsToBring existing source held roots k
      brought h k there =
          to_bring existing source held roots k (All-among (IsVisited existing source held roots) all k (visiting_visited existing source held roots all (walk.visiting h)) (parts k there).1) (fresh_held k (parts k there).0)

      found : honest → (k : Descriptor) → IsToBring existing source held roots k → is_among keys k ≡ true
      found h k bring =
          let new : is_fresh held k ≡ true = rw (bring_fresh existing source held roots k bring) refl in
          ap (λ (t : Keys). is_among t k) walk.kept ∙ among_filter_from (is_fresh held) all k new (visited_found existing source held roots all (walk.found h) k (bring_visited existing source held roots k bring))

  -- ---- refusals

  all_sound : honest → (ks : Keys) → All (IsVisitPassed honest existing entries held limit) ks → All (IsSoundVisit existing entries held limit) ks
  all_sound h ks passed = All-weaker (IsVisitPassed honest existing entries held limit) (IsSoundVisit existing entries held limit) (sound_visit honest existing entries held limit h) ks passed

  -- a fault of the next key is the first
  pub item_first : (all keys : Keys) (lists : List (Vec ℕ)) (i : ℕ) (k : Descriptor) (e : PlanFault) → IsWalk honest existing entries held roots limit all keys (take i all) lists → slice_get all i ≡ Some k
      → IsOfKey k e → honest → IsFirstFault existing entries held roots limit e
  item_first all keys lists i k e walk at of_key h =
      names_key (IsNextVisited existing source entries held roots limit) _ _ k e (take i all, walk_visiting all keys lists i k walk at h, all_sound h (take i all) walk.passed) of_key

  -- where numbers are refused there are too many keys to bring
  number_first : (keys visited : Keys) (e : PlanFault) → Names (λ _. ⊥) (λ _. ⊥) (4294967295 < length keys) e → IsVisiting (successors_at source) (passes existing held) roots visited → All (IsSoundVisit existing entries held limit) visited → keys ≡ first_places (filter (is_fresh held) (candidates (successors_at source) roots visited))
      → IsFirstFault existing entries held roots limit e
  number_first keys visited e refused visiting sound found = names_many _ _ _ keys e many refused
    where
      many : 4294967295 < length keys → HasTooMany existing entries held roots limit
      many h = record {
        visited = visited;
        visiting = visiting;
        sound = sound;
        keys = keys;
        found = found;
        many = h;
        distinct = subst (λ (t : Keys). IsDistinct same_key t) (sym found) (IsDistinct-first_places (filter (is_fresh held) (candidates (successors_at source) roots visited)));
        outside = All-from_among (IsToBring existing source held roots) keys (λ k there. found_to_bring existing source held roots visited k visiting (sym (ap (λ (t : Keys). is_among t k) found) ∙ there));
      }

  -- what is to be brought so far is not held, and was met
  kept_fresh : (all keys visited : Keys) (lists : List (Vec ℕ)) → IsWalk honest existing entries held roots limit all keys visited lists → All NotHeld keys
  kept_fresh all keys visited lists walk = subst (All NotHeld) (sym walk.kept) (fresh_kept existing entries held roots all)

  kept_met : (all keys visited : Keys) (lists : List (Vec ℕ)) → IsWalk honest existing entries held roots limit all keys visited lists → All Met keys
  kept_met all keys visited lists walk = All-from_among Met keys (λ k there. All-among Met all k walk.met (among-filter (is_fresh held) all k (ap (λ (t : Keys). is_among t k) (sym walk.kept) ∙ there)).1)

  -- where numbers are refused for the successors of the next key, there are too many keys that were
  -- met
  pub successors_met : (all keys visited successors : Keys) (lists : List (Vec ℕ)) (i : ℕ) (k : Descriptor) (e : PlanFault) → IsWalk honest existing entries held roots limit all keys visited lists → slice_get all i ≡ Some k
      → All (IsListedUnder entries k) successors → Names (λ _. ⊥) (λ _. ⊥) (4294967295 < length (with_keys keys (filter (is_fresh held) successors))) e → NamesMet existing entries held roots e
  successors_met all keys visited successors lists i k e walk at under refused =
      numbers_met existing entries held roots keys walk.once.0 (filter (is_fresh held) successors) e walk.once.1 (kept_fresh all keys visited lists walk) (kept_met all keys visited lists walk) (fresh_kept existing entries held roots successors)
      (met_listed existing entries held roots (is_fresh held) (fresh_visited existing entries held roots) k successors (place_met all keys visited lists i k walk at) under) refused

  -- the same for the roots, and for the successors of the next key
  pub roots_first : (e : PlanFault) → Names (λ _. ⊥) (λ _. ⊥) (4294967295 < length (with_keys [] (filter (is_fresh held) roots))) e → IsFirstFault existing entries held roots limit e
  roots_first e h = number_first (with_keys [] (filter (is_fresh held) roots)) [] e h start (All-nil (IsSoundVisit existing entries held limit)) (started (is_fresh held) (with_keys [] (filter (is_fresh held) roots)) refl)

  pub successors_first : (all keys successors : Keys) (lists : List (Vec ℕ)) (i : ℕ) (k : Descriptor) (e : PlanFault) → IsWalk honest existing entries held roots limit all keys (take i all) lists → slice_get all i ≡ Some k
      → MayPass honest entries (held_at existing held k) limit k → (honest → successors ≡ successors_at source k) → Names (λ _. ⊥) (λ _. ⊥) (4294967295 < length (with_keys keys (filter (is_fresh held) successors))) e → honest → IsFirstFault existing entries held roots limit e
  successors_first all keys successors lists i k e walk at may own fault h =
      number_first (with_keys keys (filter (is_fresh held) successors)) (take i all ++ k ∷ []) e fault (walk_visiting all keys lists i k walk at h)
      (All-push (IsSoundVisit existing entries held limit) (take i all) k (all_sound h (take i all) walk.passed) (sound_visit honest existing entries held limit h k (visit_passed all keys (take i all) lists i k walk at may)))
      (found_more (is_fresh held) keys (take i all) successors k (walk.found_keys h) (own h))
