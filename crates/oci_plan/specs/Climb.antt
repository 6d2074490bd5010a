-- The state of a climb.
use Rattle.std.specs.Prelude.{◌≡◌, ◌↔◌, ◌⊎◌, ℕ, ◌≤◌, ◌<◌, List, Some, Contains, slice_get}
use Rattle.oci_manifest.specs.Descriptor.{Descriptor}
use Rattle.oci_store.specs.Before.{IsBefore}
use Rattle.oci_store.specs.Graph.{Node, IsEdge}
use Rattle.oci_plan.specs.Up.{HasPath}
use Rattle.oci_store.specs.Visiting.{with_keys}

-- the keys found are the keys from which a path of at most `most` edges leads to the key
abbrev pub IsFoundWithin : List Node → Descriptor → ℕ → List Descriptor → Type 0
IsFoundWithin graph k most found = (from : Descriptor) → Contains found from ↔ ((edges : ℕ) × (edges ≤ most) × HasPath graph edges from k)

-- each key that lists one of the first `count` keys found is also found
abbrev pub IsClimbed : List Node → ℕ → List Descriptor → Type 0
IsClimbed graph count found = (place : ℕ) (lower upper : Descriptor) → place < count → slice_get found place ≡ Some lower → IsEdge graph upper lower → Contains found upper

-- the keys found keep their places, and each new key lists one that was found before
pub record IsRaised (graph : List Node) (old new : List Descriptor) : Type 0 where
  pub kept : (place : ℕ) (k : Descriptor) → slice_get old place ≡ Some k → slice_get new place ≡ Some k
  pub came : (upper : Descriptor) → Contains new upper → Contains old upper ⊎ ((lower : Descriptor) × Contains old lower × IsEdge graph upper lower)

-- the predecessors of the key at a place were added to the keys found
pub record IsStep (graph : List Node) (place : ℕ) (old new : List Descriptor) : Type 0 where
  pub lower : Descriptor
  pub there : slice_get old place ≡ Some lower
  pub predecessors : List Descriptor
  pub before : IsBefore graph lower predecessors
  pub grown : new ≡ with_keys old predecessors
