-- The walk to the keys that a key reaches.
use Rattle.std.specs.Prelude.{◌≡◌, ◌<◌, ◌∷◌, ℕ, List, [], Some, Contains, slice_get}
use Rattle.std.specs.Option.{unwrap_or}
use Rattle.oci_manifest.specs.Descriptor.{Descriptor}
use Rattle.oci_store.specs.Graph.{Node, IsEdge, Reaches}
use Rattle.oci_store.specs.Keyed.{value_at}
use Rattle.oci_store.specs.Visiting.{with_keys}

-- the keys that the key at a place lists were added to the keys found; a key that is not held lists
-- none
pub record IsStep (graph : List Node) (place : ℕ) (old new : List Descriptor) : Type 0 where
  pub from : Descriptor
  pub there : slice_get old place ≡ Some from
  pub grown : new ≡ with_keys old (unwrap_or (value_at graph from) [])

-- how far the walk from a key is: the keys that the first `place` keys found list were found
pub record IsWalking (graph : List Node) (root : Descriptor) (found : List Descriptor) (place : ℕ) : Type 0 where
  pub rooted : Contains found root
  pub reached : (k : Descriptor) → Contains found k → Reaches graph (root ∷ []) k
  pub visited : (i : ℕ) (from k : Descriptor) → i < place → slice_get found i ≡ Some from → IsEdge graph from k → Contains found k
