-- Visiting lists of a source, what is visited, and what is to be brought.
use Rattle.std.proofs.Common.{◌≡◌, true, false, not, inl, inr, List, [], Option, Some, None, refl, sym, ap, ◌∙◌}
use Rattle.std.specs.Prelude.{unwrap_or, Contains}
use Rattle.std.specs.List.{filter, flat_map, All}
use Rattle.std.proofs.lemmas.Bool.{and_parts, not-true}
use Rattle.std.proofs.lemmas.List.Elements.{All-nil, All-push, All-contains}
use Rattle.oci_manifest.specs.Descriptor.{Descriptor, is_among}
use Rattle.oci_manifest.specs.Manifest.{first_places}
use Rattle.oci_store.specs.Keyed.{value_at, has_key}
use Rattle.oci_store.specs.Graph.{Node, IsEdge, Reaches}
use Rattle.oci_store.specs.Graph as graph
use Rattle.oci_store.specs.Visiting.{candidates, IsVisiting, start, next}
use Rattle.oci_store.proofs.Membership.{Keys, Contains-from_among, among_from_Contains, among-append_left, among-append_right, among-append_cases, among-filter, among_filter_from, among_flat_map_from, among-flat_map, among-first_places, find-Some}
use Rattle.oci_plan.specs.Outside.{IsOutside, IsVisited, IsToBring}
use Rattle.oci_plan.specs.Outside as outside
use Rattle.oci_plan.specs.Visiting.{successors_at, is_fresh, passes}
use Rattle.oci_plan.specs.declared.gathering.Existing.{Existing}
use Rattle.oci_plan.specs.declared.gathering.Existing.TheVariants.{Skip, Descend}

-- ---- edges

pub successors_at-edge : (source : List Node) (from to : Descriptor) → is_among (successors_at source from) to ≡ true → IsEdge source from to
successors_at-edge source from to h = go (value_at source from) refl h
  where
    go : (o : Option Keys) → o ≡ value_at source from → is_among (unwrap_or o []) to ≡ true → IsEdge source from to
    go None e h = cc h
    go (Some ks) e h = (ks, sym e, Contains-from_among ks to h)

pub edge-successors_at : (source : List Node) (from to : Descriptor) → IsEdge source from to → is_among (successors_at source from) to ≡ true
edge-successors_at source from to e =
    let at : successors_at source from ≡ e.0 = ap (λ (o : Option Keys). unwrap_or o []) e.1 in
    rw at (among_from_Contains e.0 to e.2)

-- ---- what is visited, where held keys are skipped, and where they are not

not_held : (held : List Node) (k : Descriptor) → is_fresh held k ≡ true → has_key held k ≡ false
not_held held k h = not-true (has_key held k) h

fresh : (held : List Node) (k : Descriptor) → has_key held k ≡ false → is_fresh held k ≡ true
fresh held k h = rw h refl

-- a key that is not held is visited
pub fresh_passes : (existing : Existing) (held : List Node) (k : Descriptor) → is_fresh held k ≡ true → passes existing held k ≡ true
fresh_passes Skip held k h = h
fresh_passes Descend held k h = refl

visited_root : (existing : Existing) (source held : List Node) (roots : Keys) (k : Descriptor) → Contains roots k → passes existing held k ≡ true → IsVisited existing source held roots k
visited_root Skip source held roots k there pass = outside.root there (not_held held k pass)
visited_root Descend source held roots k there pass = graph.root there

visited_along : (existing : Existing) (source held : List Node) (roots : Keys) (from to : Descriptor) → IsVisited existing source held roots from → IsEdge source from to → passes existing held to ≡ true
    → IsVisited existing source held roots to
visited_along Skip source held roots from to before edge pass = outside.along before edge (not_held held to pass)
visited_along Descend source held roots from to before edge pass = graph.along before edge

-- what holds of each root that passes, and along each edge to a key that passes, holds of what is
-- visited
outside_all : (source held : List Node) (roots : Keys) (P : Descriptor → Type 0) → ((k : Descriptor) → Contains roots k → is_fresh held k ≡ true → P k)
    → ((from to : Descriptor) → P from → IsEdge source from to → is_fresh held to ≡ true → P to) → (k : Descriptor) → IsOutside source held roots k → P k
outside_all source held roots P first more k (outside.root there new) = first k there (fresh held k new)
outside_all source held roots P first more k (outside.along {from} {to} before edge new) = more from k (outside_all source held roots P first more from before) edge (fresh held k new)

reaches_all : (source : List Node) (roots : Keys) (P : Descriptor → Type 0) → ((k : Descriptor) → Contains roots k → P k)
    → ((from to : Descriptor) → P from → IsEdge source from to → P to) → (k : Descriptor) → Reaches source roots k → P k
reaches_all source roots P first more k (graph.root there) = first k there
reaches_all source roots P first more k (graph.along {from} {to} before edge) = more from k (reaches_all source roots P first more from before) edge

visited_all : (existing : Existing) (source held : List Node) (roots : Keys) (P : Descriptor → Type 0) → ((k : Descriptor) → Contains roots k → passes existing held k ≡ true → P k)
    → ((from to : Descriptor) → P from → IsEdge source from to → passes existing held to ≡ true → P to) → (k : Descriptor) → IsVisited existing source held roots k → P k
visited_all Skip source held roots P first more = outside_all source held roots P first more
visited_all Descend source held roots P first more = reaches_all source roots P (λ k there. first k there refl) (λ from to before edge. more from to before edge refl)

-- what is to be brought is what is visited and not held
pub to_bring : (existing : Existing) (source held : List Node) (roots : Keys) (k : Descriptor) → IsVisited existing source held roots k → has_key held k ≡ false → IsToBring existing source held roots k
to_bring Skip source held roots k visited new = visited
to_bring Descend source held roots k visited new = (visited, new)

pub bring_visited : (existing : Existing) (source held : List Node) (roots : Keys) (k : Descriptor) → IsToBring existing source held roots k → IsVisited existing source held roots k
bring_visited Skip source held roots k bring = bring
bring_visited Descend source held roots k bring = bring.0

outside_fresh : (source held : List Node) (roots : Keys) (k : Descriptor) → IsOutside source held roots k → has_key held k ≡ false
outside_fresh source held roots k (outside.root there new) = new
outside_fresh source held roots k (outside.along before edge new) = new

pub bring_fresh : (existing : Existing) (source held : List Node) (roots : Keys) (k : Descriptor) → IsToBring existing source held roots k → has_key held k ≡ false
bring_fresh Skip source held roots k bring = outside_fresh source held roots k bring
bring_fresh Descend source held roots k bring = bring.1

-- ---- visiting lists

-- a candidate of visited keys that passes is visited
visited_candidate : (existing : Existing) (source held : List Node) (roots items : Keys) (k : Descriptor) → All (IsVisited existing source held roots) items
    → is_among (candidates (successors_at source) roots items) k ≡ true → passes existing held k ≡ true → IsVisited existing source held roots k
visited_candidate existing source held roots items k visited there pass =
    elim (among-append_cases roots (flat_map (successors_at source) items) k there) [
      | inl first ↦ visited_root existing source held roots k (Contains-from_among roots k first) pass
      | inr listed ↦
          let r = among-flat_map (successors_at source) items k listed in
          let from = All-contains (IsVisited existing source held roots) items r.0 visited (Contains-from_among items r.0 r.1) in
          visited_along existing source held roots r.0 k from (successors_at-edge source r.0 k r.2) pass
    ]

-- the items of a visiting list are visited
pub visiting_visited : (existing : Existing) (source held : List Node) (roots items : Keys) → IsVisiting (successors_at source) (passes existing held) roots items → All (IsVisited existing source held roots) items
visiting_visited existing source held roots _ start = All-nil (IsVisited existing source held roots)
visiting_visited existing source held roots _ (next {items} {k} before is_next) =
    let visited = visiting_visited existing source held roots items before in
    let found = find-Some _ (candidates (successors_at source) roots items) k is_next in
    let parts = and_parts (passes existing held k) (not (is_among items k)) found.0 in
    All-push (IsVisited existing source held roots) items k visited (visited_candidate existing source held roots items k visited found.1 parts.0)

-- the candidates of a visiting list that are not held are to be brought, each at its first place
pub found_to_bring : (existing : Existing) (source held : List Node) (roots items : Keys) (k : Descriptor) → IsVisiting (successors_at source) (passes existing held) roots items
    → is_among (first_places (filter (is_fresh held) (candidates (successors_at source) roots items))) k ≡ true → IsToBring existing source held roots k
found_to_bring existing source held roots items k visiting there =
    let offered : Keys = filter (is_fresh held) (candidates (successors_at source) roots items) in
    let kept = among-filter (is_fresh held) (candidates (successors_at source) roots items) k (sym (among-first_places offered k) ∙ there) in
    let visited = visited_candidate existing source held roots items k (visiting_visited existing source held roots items visiting) kept.1 (fresh_passes existing held k kept.0) in
    to_bring existing source held roots k visited (not_held held k kept.0)

-- where no candidate of the keys is left out, every visited key is one of them
pub visited_found : (existing : Existing) (source held : List Node) (roots keys : Keys) → keys ≡ first_places (filter (passes existing held) (candidates (successors_at source) roots keys))
    → (k : Descriptor) → IsVisited existing source held roots k → is_among keys k ≡ true
visited_found existing source held roots keys found = visited_all existing source held roots (λ k. is_among keys k ≡ true) first more
  where
    placed : (k : Descriptor) → passes existing held k ≡ true → is_among (candidates (successors_at source) roots keys) k ≡ true → is_among keys k ≡ true
    placed k pass there =
        ap (λ (t : Keys). is_among t k) found ∙ among-first_places (filter (passes existing held) (candidates (successors_at source) roots keys)) k
        ∙ among_filter_from (passes existing held) (candidates (successors_at source) roots keys) k pass there

    first : (k : Descriptor) → Contains roots k → passes existing held k ≡ true → is_among keys k ≡ true
    first k there pass = placed k pass (among-append_left roots (flat_map (successors_at source) keys) k (among_from_Contains roots k there))

    more : (from to : Descriptor) → is_among keys from ≡ true → IsEdge source from to → passes existing held to ≡ true → is_among keys to ≡ true
    more from to before edge pass = placed to pass (among-append_right roots (flat_map (successors_at source) keys) to (among_flat_map_from (successors_at source) keys from to before (edge-successors_at source from to edge)))
