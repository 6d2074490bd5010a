-- The keys of a list in a graph, one at a time.
use Rattle.std.proofs.Common.{◌≡◌, ℕ, ◌+◌, ◌<◌, true, inl, inr, List, [], ◌∷◌, ◌++◌, length, take, get_or, sym, ap, subst, ◌∙◌}
use Rattle.std.specs.Prelude.{Contains}
use Rattle.std.specs.List.{All}
use Rattle.std.specs.Map.{keys_of}
use Rattle.std.proofs.lemmas.List.{map-append, take_more}
use Rattle.std.proofs.lemmas.List.Elements.{All-push, All-weaker, Contains-get_or, Contains-push}
use Rattle.oci_manifest.specs.Descriptor.{Descriptor}
use Rattle.oci_store.specs.Graph.{Node}
use Rattle.oci_store.specs.Keyed.{has_key, HasAll}
use Rattle.oci_store.specs.State.{State}
use Rattle.oci_store.proofs.Lookups.{has_key-append_left, has_key-from_Contains}
use Rattle.oci_export.specs.Export.{IsHeldOf, IsListed}

-- a graph has these first keys of a list, and no others
pub record IsOutlineOf (source : State) (keys first : List Descriptor) (graph : List Node) : Type 0 where
  pub held : HasAll graph first
  pub listed : All (IsListed source keys) graph

-- a node that came is held
held_last : (graph : List Node) (n : Node) → has_key (graph ++ n ∷ []) n.0 ≡ true
held_last graph n =
    has_key-from_Contains (graph ++ n ∷ []) n.0
    (subst (λ (keys : List Descriptor). Contains keys n.0) (sym (map-append (λ (m : Node). m.0) graph (n ∷ []))) (Contains-push (keys_of graph) n.0))

-- one key more
IsOutlineOf-more : (source : State) (keys first : List Descriptor) (k : Descriptor) (old new : List Node) → IsOutlineOf source keys first old → Contains keys k
    → IsHeldOf source k old new → IsOutlineOf source keys (first ++ k ∷ []) new
IsOutlineOf-more source keys first k old new h among did =
    elim did [
      | inl there ↦
          subst (IsOutlineOf source keys (first ++ k ∷ [])) (sym there.1)
          (record { held = All-push (λ other. has_key old other ≡ true) first k h.held there.0; listed = h.listed })
      | inr came ↦
          let n : Node = (k, came.1) in
          let grown = old ++ n ∷ [] in
          let stay : HasAll grown first =
          All-weaker (λ other. has_key old other ≡ true) (λ other. has_key grown other ≡ true) (has_key-append_left old (n ∷ [])) first h.held in
          subst (IsOutlineOf source keys (first ++ k ∷ [])) (sym came.3)
          (record {
            held = All-push (λ other. has_key grown other ≡ true) first k stay (held_last old n);
            listed = All-push (IsListed source keys) old n h.listed (record { among = among; lists = came.2 });
          })
    ]

-- the key at a place is one of them
among_at : (keys : List Descriptor) (i : ℕ) (k : Descriptor) → i < length keys → k ≡ get_or keys i k → Contains keys k
among_at keys i k within is = subst (Contains keys) (sym is) (Contains-get_or keys i k within)

-- the key at a place more
pub IsOutlineOf-next : (source : State) (keys : List Descriptor) (i : ℕ) (k : Descriptor) (old new : List Node) → i < length keys → k ≡ get_or keys i k
    → IsOutlineOf source keys (take i keys) old → IsHeldOf source k old new → IsOutlineOf source keys (take (i + 1) keys) new
IsOutlineOf-next source keys i k old new within is h did =
    let more : take (i + 1) keys ≡ take i keys ++ k ∷ [] = take_more keys i k within ∙ ap (λ (d : Descriptor). take i keys ++ d ∷ []) (sym is) in
    subst (λ (first : List Descriptor). IsOutlineOf source keys first new) (sym more)
    (IsOutlineOf-more source keys (take i keys) k old new h (among_at keys i k within is) did)
