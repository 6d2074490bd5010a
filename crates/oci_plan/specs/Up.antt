-- The keys from which a path leads to a key (oras-go v2, "ExtendedCopy").
use Rattle.std.specs.Prelude.{◌≡◌, ◌≢◌, ◌↔◌, ℕ, ◌≤◌, zero, suc, List, Contains}
use Rattle.std.specs.List.Sorted.{IsStrictlySortedBy}
use Rattle.oci_manifest.specs.Descriptor.{Descriptor, key_cmp}
use Rattle.oci_store.specs.Graph.{Node, IsEdge}

-- a path with this number of edges leads from the first key to the second
abbrev pub HasPath : List Node → ℕ → Descriptor → Descriptor → Type 0
HasPath graph zero from to = from ≡ to
HasPath graph (suc edges) from to = (next : Descriptor) × IsEdge graph from next × HasPath graph edges next to

-- a path may have at most `depth` edges; for depth 0 it may have any number
abbrev pub IsWithinDepth : ℕ → ℕ → Type 0
IsWithinDepth depth edges = depth ≢ 0 → edges ≤ depth

-- the list has each key from which a path within the depth leads to k, once, in key order
pub record IsUp (graph : List Node) (k : Descriptor) (depth : ℕ) (keys : List Descriptor) : Type 0 where
  pub each : (from : Descriptor) → Contains keys from ↔ ((edges : ℕ) × IsWithinDepth depth edges × HasPath graph edges from k)
  pub order : IsStrictlySortedBy key_cmp keys

-- any two such lists are equal
abbrev pub UpIsOneList : Type 0
UpIsOneList = (graph : List Node) (k : Descriptor) (depth : ℕ) (a b : List Descriptor) → IsUp graph k depth a → IsUp graph k depth b → a ≡ b
