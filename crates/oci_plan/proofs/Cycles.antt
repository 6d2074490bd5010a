-- Where a path meets itself, its part from there on is a cycle.
use Rattle.std.proofs.Common.{◌≡◌, ℕ, ◌+◌, ◌-◌, ◌<◌, List, length, drop, get_or, sym, ap, ◌∙◌, arith, subst}
use Rattle.std.proofs.lemmas.List.{get_or-drop, length-drop}
use Rattle.oci_plan.specs.Graph.{HasEdge, IsDistinct, IsPath, IsCycle}
use Rattle.oci_plan.specs.Search.{EndsWith, IsTailFrom}

-- the rest of a path from a place on, where an edge leads from its end to that place
cycle-drop : (lists : List (List ℕ)) (path : List ℕ) (place n : ℕ) → place < length path → EndsWith path n → IsDistinct path → IsPath lists path → HasEdge lists n (get_or path place 0) → IsCycle lists (drop place path)
cycle-drop lists path place n within ends distinct is_path edge =
    let len : length (drop place path) ≡ length path - place = length-drop place path in
    record {
      some = omega arith;
      distinct = λ i j d lt below. λ e. distinct (place + i) (place + j) d (omega arith) (omega arith) (sym (get_or-drop place path i d) ∙ e ∙ get_or-drop place path j d);
      path = λ i below.
          let at : get_or (drop place path) i 0 ≡ get_or path (place + i) 0 = get_or-drop place path i 0 in
          let sum : place + (i + 1) ≡ place + i + 1 = omega arith in
          let next : get_or (drop place path) (i + 1) 0 ≡ get_or path (place + i + 1) 0 = get_or-drop place path (i + 1) 0 ∙ ap (λ (k : ℕ). get_or path k 0) sum in
          rw (at, next) (is_path (place + i) (omega arith));
      closes =
          let end : place + (length (drop place path) - 1) ≡ length path - 1 = omega arith in
          let last : get_or (drop place path) (length (drop place path) - 1) 0 ≡ n = get_or-drop place path (length (drop place path) - 1) 0 ∙ ap (λ (k : ℕ). get_or path k 0) end ∙ ends.last in
          let none : place + 0 ≡ place = omega arith in
          let first : get_or (drop place path) 0 0 ≡ get_or path place 0 = get_or-drop place path 0 0 ∙ ap (λ (k : ℕ). get_or path k 0) none in
          rw (last, first) edge;
    }

-- the path from a number on it, where an edge leads from the path's end to that number
pub cycle_from_tail : (lists : List (List ℕ)) (path : List ℕ) (n next : ℕ) (tail : List ℕ) → EndsWith path n → IsDistinct path → IsPath lists path → HasEdge lists n next → IsTailFrom path next tail → IsCycle lists tail
cycle_from_tail lists path n next tail ends distinct is_path edge t =
    let back : HasEdge lists n (get_or path t.place 0) = subst (HasEdge lists n) (sym t.starts) edge in
    rw t.rest (cycle-drop lists path t.place n t.within ends distinct is_path back)
