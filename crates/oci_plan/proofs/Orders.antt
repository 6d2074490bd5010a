-- Orders without doubles, and that a graph with an order has no cycle.
use Rattle.std.proofs.Common.{◌≡◌, ℕ, zero, suc, ◌+◌, ◌-◌, ◌<◌, ◌≤◌, inl, inr, List, [], length, take, map, get_or, Result, Ok, Err, sym, ap, ◌∙◌, arith, subst}
use Rattle.std.specs.Prelude.{All, Contains, MatchResult, OnOk}
use Rattle.std.proofs.Math.ListN as math
use Rattle.std.proofs.lemmas.Bool.{cases_lt}
use Rattle.std.proofs.lemmas.Grind.{get_or_default_zero}
use Rattle.std.proofs.lemmas.List.{length-map, length-take-le, get_or-take, get_or_past}
use Rattle.std.proofs.lemmas.List.Elements.{All-contains}
use Rattle.oci_plan.specs.Graph.{successors_of, without_doubles, HasEdge, IsDistinct, IsGraph, IsCycle}
use Rattle.oci_plan.specs.Order.{Ordered, IsTopological, IsOrder, IsOrderOf}
use Rattle.oci_plan.proofs.Doubles.{All-without_doubles, IsDistinct-without_doubles}

-- a number's list without doubles
successors_of-map : (lists : List (List ℕ)) (n : ℕ) → successors_of (map without_doubles lists) n ≡ without_doubles (successors_of lists n)
successors_of-map lists n = math.get_or-map without_doubles lists n []

-- a graph without doubles is one
IsGraph-without_doubles : (lists : List (List ℕ)) → IsGraph lists → IsGraph (map without_doubles lists)
IsGraph-without_doubles lists graph n =
    let len : length (map without_doubles lists) ≡ length lists = length-map lists without_doubles in
    let all : All (λ m. m < length lists) (without_doubles (successors_of lists n)) = All-without_doubles (λ m. m < length lists) (successors_of lists n) (graph n) in
    rw (successors_of-map lists n, len) all

-- and has no number twice in a list
distinct_lists : (lists : List (List ℕ)) (n : ℕ) → IsDistinct (successors_of (map without_doubles lists) n)
distinct_lists lists n = subst IsDistinct (sym (successors_of-map lists n)) (IsDistinct-without_doubles (successors_of lists n))

-- an order stays one
IsTopological-without_doubles : (lists : List (List ℕ)) (sequence : List ℕ) → IsTopological lists sequence → IsTopological (map without_doubles lists) sequence
IsTopological-without_doubles lists sequence t =
    let len : length (map without_doubles lists) ≡ length lists = length-map lists without_doubles in
    record {
      numbers = λ k d lt. omega (arith, len, t.numbers k d lt);
      distinct = t.distinct;
      complete = λ n lt. t.complete n (omega (arith, len, lt));
      len = t.len ∙ sym len;
      follows = λ i lt. subst (All (Contains (take i sequence))) (sym (successors_of-map lists (get_or sequence i 0))) (All-without_doubles (Contains (take i sequence)) (successors_of lists (get_or sequence i 0)) (t.follows i lt));
    }

-- a graph's lists without doubles and its numbers in an order are what callers see of one
pub IsOrder-without_doubles : (lists kept : List (List ℕ)) (sequence : List ℕ) → kept ≡ map without_doubles lists → length lists ≤ 4294967295 → IsGraph lists → IsTopological lists sequence → IsOrder (record { lists = kept; sequence = sequence })
IsOrder-without_doubles lists kept sequence without count graph topological = rw without (record {
  count = omega (arith, count, length-map lists without_doubles);
  graph = IsGraph-without_doubles lists graph;
  no_doubles = distinct_lists lists;
  topological = IsTopological-without_doubles lists sequence topological;
})

-- the next place of a cycle has a successor of what stands at a place
next_on : (lists : List (List ℕ)) (numbers : List ℕ) (k : ℕ) → IsCycle lists numbers → k < length numbers → (next : ℕ) × (next < length numbers) × HasEdge lists (get_or numbers k 0) (get_or numbers next 0)
next_on lists numbers k cycle within = elim (cases_lt (k + 1) (length numbers)) [
  | inl lt ↦ (k + 1, lt, cycle.path k lt)
  | inr past ↦
      let end : length numbers - 1 ≡ k = omega arith in
      (0, cycle.some, subst (λ (j : ℕ). HasEdge lists (get_or numbers j 0) (get_or numbers 0 0)) end cycle.closes)
]

-- no number of a cycle stands at any place of an order, since the next one would stand before it
nowhere : (lists : List (List ℕ)) (sequence numbers : List ℕ) → IsTopological lists sequence → IsCycle lists numbers → (bound i k : ℕ) → i < bound → i < length sequence → k < length numbers → get_or sequence i 0 ≡ get_or numbers k 0 → ⊥
nowhere lists sequence numbers t cycle zero i k below within on at = absurd (omega arith)
nowhere lists sequence numbers t cycle (suc bound) i k below within on at =
    let next = next_on lists numbers k cycle on in
    let m : ℕ = get_or numbers next.0 0 in
    let edge : HasEdge lists (get_or sequence i 0) m = subst (λ (n : ℕ). HasEdge lists n m) (sym at) next.2 in
    let before : Contains (take i sequence) m = All-contains (Contains (take i sequence)) (successors_of lists (get_or sequence i 0)) m (t.follows i within) edge in
    let len : length (take i sequence) ≡ i = length-take-le i sequence (omega arith) in
    let lt : before.0 < i = omega (arith, before.1) in
    let inside : before.0 < length sequence = omega arith in
    let there : get_or sequence before.0 0 ≡ m = sym (get_or_default_zero sequence before.0 m inside) ∙ sym (get_or-take i sequence before.0 m lt) ∙ before.2 in
    nowhere lists sequence numbers t cycle bound before.0 next.0 (omega arith) inside next.1 there

-- what has an edge is a number of the graph
edge_below : (lists : List (List ℕ)) (n m : ℕ) → HasEdge lists n m → n < length lists
edge_below lists n m edge = elim (cases_lt n (length lists)) [
  | inl lt ↦ lt
  | inr past ↦
      let none : length (successors_of lists n) ≡ 0 = ap length (get_or_past lists n [] past) in
      absurd (omega (arith, edge.1))
]

-- a graph with an order has no cycle
no_cycle : (lists : List (List ℕ)) (sequence numbers : List ℕ) → IsTopological lists sequence → IsCycle lists numbers → ⊥
no_cycle lists sequence numbers t cycle =
    let next = next_on lists numbers 0 cycle cycle.some in
    let here = t.complete (get_or numbers 0 0) (edge_below lists (get_or numbers 0 0) (get_or numbers next.0 0) next.2) in
    let at : get_or sequence here.0 0 ≡ get_or numbers 0 0 = sym (get_or_default_zero sequence here.0 (get_or numbers 0 0) here.1) ∙ here.2 in
    nowhere lists sequence numbers t cycle (length sequence) here.0 0 here.1 here.1 cycle.some at

-- so where an order was answered, the graph has no cycle
pub no_cycle_if_ok : {F : Type 0} (lists : List (List ℕ)) (r : Result Ordered F) (Q : F → Type 0) → MatchResult r (IsOrderOf lists) Q → OnOk r ((numbers : List ℕ) → IsCycle lists numbers → ⊥)
no_cycle_if_ok lists (Ok o) Q is = λ numbers cycle. no_cycle lists o.sequence numbers is.topological cycle
no_cycle_if_ok lists (Err fault) Q is = tt
