-- How far the walk to the keys that a key reaches is.
use Rattle.std.proofs.Common.{◌≡◌, ℕ, ◌+◌, ◌≤◌, true, inl, inr, List, [], ◌∷◌, length, get_or, Option, Some, None, refl, sym, ap, subst, ◌∙◌, arith}
use Rattle.std.specs.Prelude.{◌↔◌, Contains}
use Rattle.std.specs.BTreeSet.{BTreeSet, contains}
use Rattle.std.specs.List.{slice_get}
use Rattle.std.specs.Option.{unwrap_or}
use Rattle.std.proofs.lemmas.Bool.{cases_order}
use Rattle.std.proofs.lemmas.List.Elements.{Contains-push, Contains-push_cases}
use Rattle.std.proofs.lemmas.Option.{slice_get_within, slice_get-get_or}
use Rattle.oci_manifest.specs.Descriptor.{Descriptor, key_cmp, is_among}
use Rattle.oci_store.specs.Graph.{Node, IsEdge, Reaches, root, along}
use Rattle.oci_store.specs.Keyed.{value_at}
use Rattle.oci_store.specs.Visiting.{with_key, with_keys}
use Rattle.oci_store.proofs.Membership.{Keys, Contains-from_among, among_from_Contains, among-with_keys, among_from_place, place_from_among, slice_get-with_keys, stays-with_keys, there-with_keys}
use Rattle.oci_verify.specs.Reached.{IsStep, IsWalking}

-- the one key that was found first
pub IsWalking-start : (graph : List Node) (k : Descriptor) (found : Keys) → found ≡ with_key [] k → IsWalking graph k found 0
IsWalking-start graph k found is =
    let one : found ≡ k ∷ [] = is in
    record {
      rooted = subst (λ (ks : Keys). Contains ks k) (sym one) (Contains-push [] k);
      reached = λ j there. root (subst (λ (ks : Keys). Contains ks j) one there);
      visited = λ i from j lt. absurd (omega (arith, lt));
    }

-- what was found before is found after a step
kept : (graph : List Node) (place : ℕ) (old new : Keys) → IsStep graph place old new → (k : Descriptor) → Contains old k → Contains new k
kept graph place old new step k there =
    Contains-from_among new k (subst (λ (ks : Keys). is_among ks k ≡ true) (sym step.grown) (stays-with_keys old (unwrap_or (value_at graph step.from) []) k (among_from_Contains old k there)))

-- what is listed is found after a step
came : (graph : List Node) (place : ℕ) (old new : Keys) (step : IsStep graph place old new) (k : Descriptor) → IsEdge graph step.from k → Contains new k
came graph place old new step k edge =
    let listed : unwrap_or (value_at graph step.from) [] ≡ edge.0 = ap (λ (o : Option Keys). unwrap_or o []) edge.1 in
    Contains-from_among new k (subst (λ (ks : Keys). is_among ks k ≡ true) (sym step.grown)
    (there-with_keys old (unwrap_or (value_at graph step.from) []) k (among_from_Contains (unwrap_or (value_at graph step.from) []) k (subst (λ (ks : Keys). Contains ks k) (sym listed) edge.2))))

-- a place keeps its key
stays : (graph : List Node) (place : ℕ) (old new : Keys) → IsStep graph place old new → (i : ℕ) (k : Descriptor) → slice_get old i ≡ Some k → slice_get new i ≡ Some k
stays graph place old new step i k at =
    subst (λ (ks : Keys). slice_get ks i ≡ Some k) (sym step.grown) (slice_get-with_keys old (unwrap_or (value_at graph step.from) []) i k at)

-- a key that is among those that a key lists is at the end of an edge
edge_to : (graph : List Node) (from k : Descriptor) (o : Option Keys) → value_at graph from ≡ o → is_among (unwrap_or o []) k ≡ true → IsEdge graph from k
edge_to graph from k None is among = cc among
edge_to graph from k (Some listed) is among = (listed, is, Contains-from_among listed k among)

pub IsWalking-step : (graph : List Node) (key : Descriptor) (old new : Keys) (place : ℕ) → IsWalking graph key old place → IsStep graph place old new → IsWalking graph key new (place + 1)
IsWalking-step graph key old new place w step = record {
  rooted = kept graph place old new step key w.rooted;
  reached = λ k there.
      elim (among-with_keys old (unwrap_or (value_at graph step.from) []) k (subst (λ (ks : Keys). is_among ks k ≡ true) step.grown (among_from_Contains new k there))) [
        | inl was ↦ w.reached k (Contains-from_among old k was)
        | inr listed ↦
            along (w.reached step.from (Contains-from_among old step.from (among_from_place old place step.from step.there)))
            (edge_to graph step.from k (value_at graph step.from) refl listed)
      ];
  visited = λ i from k lt there edge.
      elim (cases_order i place) [
        | inl here ↦
            let now = stays graph place old new step place step.from step.there in
            let same : from ≡ step.from = cc (sym (subst (λ (n : ℕ). slice_get new n ≡ Some from) here there) ∙ now) in
            came graph place old new step k (subst (λ (x : Descriptor). IsEdge graph x k) same edge)
        | inr apart ↦
            elim apart [
              | inr after ↦ absurd (omega (arith, lt, after))
              | inl before ↦
                  let within = slice_get_within old place step.from step.there in
                  let was = slice_get-get_or old i step.from (omega (arith, before, within)) in
                  let is : get_or old i step.from ≡ from = cc (sym (stays graph place old new step i (get_or old i step.from) was) ∙ there) in
                  kept graph place old new step k (w.visited i from k before (subst (λ (x : Descriptor). slice_get old i ≡ Some x) is was) edge)
            ]
      ];
}

pub inside_step : (graph : List Node) (place : ℕ) (old new : Keys) → IsStep graph place old new → place + 1 ≤ length new
inside_step graph place old new step =
    let lt = slice_get_within new place step.from (stays graph place old new step place step.from step.there) in
    omega (arith, lt)

-- the one key of a list
only : (x k : Descriptor) → Contains (x ∷ []) k → k ≡ x
only x k there =
    elim (Contains-push_cases [] x k there) [
      | inl never ↦ cc (among_from_Contains [] k never)
      | inr is ↦ sym is
    ]

-- at the end each key that is reached was found
all_found : (graph : List Node) (key : Descriptor) (found : Keys) → IsWalking graph key found (length found) → (k : Descriptor) → Reaches graph (key ∷ []) k → Contains found k
all_found graph key found w k (root named) = subst (λ (x : Descriptor). Contains found x) (sym (only key k named)) w.rooted
all_found graph key found w k (along {from} path edge) =
    let there = all_found graph key found w from path in
    let at = place_from_among found from (among_from_Contains found from there) in
    w.visited at.0 from k (slice_get_within found at.0 from at.1) at.1 edge

pub walked : (graph : List Node) (key : Descriptor) (found keys : Keys) (set : BTreeSet Descriptor) → IsWalking graph key found (length found) → keys ≡ found → ((k : Descriptor) → contains key_cmp set k ≡ is_among keys k)
    → (k : Descriptor) → (contains key_cmp set k ≡ true) ↔ Reaches graph (key ∷ []) k
walked graph key found keys set w same is k =
    let here : contains key_cmp set k ≡ is_among found k = is k ∙ ap (λ (ks : Keys). is_among ks k) same in (
      λ h. w.reached k (Contains-from_among found k (sym here ∙ h)),
      λ path. here ∙ among_from_Contains found k (all_found graph key found w k path),
    )
