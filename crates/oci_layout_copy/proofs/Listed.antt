-- Lemmas about the sources that a mirror may follow.
use Rattle.std.proofs.Common.{◌≡◌, ℕ, ◌+◌, ◌<◌, List, [], ◌∷◌, length, take, option_map, Some, None, is_some, sym, ap, subst, ◌∙◌}
use Rattle.std.specs.Prelude.{Contains}
use Rattle.std.specs.List.{All, slice_get}
use Rattle.std.specs.Map.{keys_of}
use Rattle.std.proofs.lemmas.List.Elements.{All-append, All-cons, All-contains, All-nil}
use Rattle.std.proofs.lemmas.Option.{same_Some}
use Rattle.oci_manifest.specs.Descriptor.{Descriptor}
use Rattle.oci_store.specs.Graph.{Node}
use Rattle.oci_store.specs.Keyed.{value_at}
use Rattle.oci_store.proofs.Lookups.{Contains-from_has_key}
use Rattle.oci_layout_store.proofs.Loose.{keys-more}
use Rattle.oci_layout_copy.specs.Mirror.{HoldsListedManifests, IsHeldManifest, ListsHeldManifests}

-- the keys so far, and one more
pub listed_more : (graph : List Node) (i : ℕ) (k : Descriptor) → i < length graph → option_map (λ (n : Node). n.0) (slice_get graph i) ≡ Some k
    → All (ListsHeldManifests graph) (keys_of (take i graph)) → ListsHeldManifests graph k → All (ListsHeldManifests graph) (keys_of (take (i + 1) graph))
listed_more graph i k lt at before here =
    let P = ListsHeldManifests graph in
    subst (All P) (sym (keys-more graph i k lt at)) (All-append P (keys_of (take i graph)) (k ∷ []) before (All-cons P k [] here (All-nil P)))

-- if each held key lists only held manifests, all do: others list nothing
pub all_listed : (graph : List Node) → All (ListsHeldManifests graph) (keys_of graph) → HoldsListedManifests graph
all_listed graph all from k edge =
    All-contains (ListsHeldManifests graph) (keys_of graph) from all (Contains-from_has_key graph from (ap is_some edge.1)) k edge

-- a key lists these keys
pub lists_held : (graph : List Node) (from : Descriptor) (keys : List Descriptor) → value_at graph from ≡ Some keys → All (IsHeldManifest graph) keys → ListsHeldManifests graph from
lists_held graph from keys is all k edge =
    All-contains (IsHeldManifest graph) keys k all (subst (λ (ks : List Descriptor). Contains ks k) (same_Some edge.0 keys (sym edge.1 ∙ is)) edge.2)

-- a key that is not held lists nothing
pub lists_nothing : (graph : List Node) (from : Descriptor) → value_at graph from ≡ None → ListsHeldManifests graph from
lists_nothing graph from none k edge = cc (sym none ∙ edge.1)
