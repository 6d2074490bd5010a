-- What an exact mirror holds.
use Rattle.std.proofs.Common.{◌≡◌, true, false, inl, inr, List, ◌++◌, is_some, ap, ◌∙◌}
use Rattle.std.specs.Prelude.{Contains}
use Rattle.std.specs.BTreeSet.{BTreeSet}
use Rattle.std.specs.List.{All}
use Rattle.std.specs.Map.{values_of}
use Rattle.std.proofs.lemmas.List.Elements.{All-append, All-contains, All-contains_itself, All-weaker, Contains-append_left}
use Rattle.oci_manifest.specs.Descriptor.{Descriptor}
use Rattle.oci_store.specs.Graph.{Node, Reaches, root as start, along}
use Rattle.oci_store.specs.Keyed.{has_key, HasAll}
use Rattle.oci_store.specs.State.{State}
use Rattle.oci_prune.specs.Belongs.{Belongs, given, needed}
use Rattle.oci_prune.specs.Plan.{roots_with, AreKept, IsSafe, RefersIf}
use Rattle.oci_prune.specs.Pruned.{kept_of, KeepsReached}
use Rattle.oci_prune.proofs.Leaving.{kept_from_left, reached_left}
use Rattle.oci_layout_store.specs.Entries.{said}
use Rattle.oci_layout_store.specs.Layout.{LayoutState}
use Rattle.oci_layout_store.specs.Saved.{shadowed_keys}
use Rattle.oci_layout_copy.specs.Mirror.{HoldsOnlyReached}
use Rattle.oci_selection.specs.Selected.{IsOfRoot}
use Rattle.oci_layout_copy.proofs.Mirrored.{reached_from_more}
use Rattle.oci_selection.proofs.NamedRoots.{shadowed_named}

-- held keys that stay are held
pub roots_stay : (old new : List Node) (roots : List Descriptor) → KeepsReached old new roots → HasAll old roots → HasAll new roots
roots_stay old new roots keeps held =
    All-weaker (Contains roots) (λ (k : Descriptor). has_key new k ≡ true)
    (λ k there. ap is_some (keeps k (start there)) ∙ All-contains (λ (k : Descriptor). has_key old k ≡ true) roots k held there)
    roots (All-contains_itself roots)

-- what more keys reach stays, and so what some of them reach
pub fewer_stay : (old new : List Node) (roots more : List Descriptor) → KeepsReached old new (roots ++ more) → KeepsReached old new roots
fewer_stay old new roots more keeps k reached = keeps k (reached_from_more old roots (roots ++ more) (λ j there. Contains-append_left roots more j there) k reached)

-- what belongs to keys by no reference is reached from them
reached_by_lists : (graph : List Node) (keys : List Descriptor) (attached : Descriptor → Descriptor → Type 0) → ((k subject : Descriptor) → attached k subject → ⊥) → (k : Descriptor) → Belongs graph keys attached k → Reaches graph keys k
reached_by_lists graph keys attached never k (given named held) = start named
reached_by_lists graph keys attached never k (needed {from} of (inl edge) held) = along (reached_by_lists graph keys attached never from of) edge
reached_by_lists graph keys attached never k (needed {from} of (inr refers) held) = absurd (never k from refers)

-- a path stays if what it reaches stays
path_stays : (old new : List Node) (keys : List Descriptor) → KeepsReached old new keys → (k : Descriptor) → Reaches old keys k → Reaches new keys k
path_stays old new keys keeps k (start named) = start named
path_stays old new keys keeps k (along {from} path edge) = along (path_stays old new keys keeps from path) (edge.0, keeps from path ∙ edge.1, edge.2)

-- so a prune that keeps what some keys need, and nothing that refers to it, leaves only what they reach
pub only_reached : (old : List Node) (keys : List Descriptor) (kept : BTreeSet Descriptor) (store : State) → IsSafe old keys kept → AreKept old keys (RefersIf false store) kept → HoldsOnlyReached (kept_of kept old) keys
only_reached old keys kept store safe are k held =
    path_stays old (kept_of kept old) keys (reached_left old keys kept safe) k
    (reached_by_lists old keys (RefersIf false store) (λ _ _ never. never) k ((are k).0 (kept_from_left kept old k held)))

-- if the tags of a layout and the named entries of its index are of some roots, what is reached from
-- these and from the roots of its prune is reached from them alone
pub only_roots : {D : Type 0} (l : LayoutState D) (roots : List Descriptor) (graph : List Node) → All (Contains roots) (values_of l.tags) → All (IsOfRoot roots) (said l.opened.content).entries
    → HoldsOnlyReached graph (roots_with l roots) → HoldsOnlyReached graph roots
only_roots l roots graph tagged named holds k held =
    let hidden = shadowed_keys l.opened l.graph l.tags in
    let all : All (Contains roots) (roots ++ (values_of l.tags ++ hidden)) =
    All-append (Contains roots) roots (values_of l.tags ++ hidden) (All-contains_itself roots) (All-append (Contains roots) (values_of l.tags) hidden tagged (shadowed_named roots l.opened l.graph l.tags named)) in
    reached_from_more graph (roots_with l roots) roots (λ j there. All-contains (Contains roots) (roots_with l roots) j all there) k (holds k held)
