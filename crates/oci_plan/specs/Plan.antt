-- Plans: the keys that a copy has to push, by number, and the order in which they may be pushed.
use Rattle.std.specs.Prelude.{◌≡◌, ℕ, true, List, length, map, take, filter, filter_map, Some, ◌⊎◌, Contains, slice_get}
use Rattle.std.specs.List.{All, IsDistinct}
use Rattle.oci_manifest.specs.Descriptor.{Descriptor, same_key}
use Rattle.oci_store.specs.Keyed.{has_key}
use Rattle.oci_store.specs.Graph.{Node}
use Rattle.oci_plan.specs.Graph.{successors_of}
use Rattle.oci_plan.specs.Order.{Ordered}
use Rattle.oci_plan.specs.Visiting.{successors_at, is_fresh}

-- the value of a `Plan` for its callers: the keys by number, the order of the numbers, and the
-- roots that were already held
pub record Planned : Type 0 where
  pub keys : List Descriptor
  pub order : Ordered
  pub skipped : List Descriptor

-- This holds of every plan: no key has two numbers, and the order is of the numbers of the keys.
pub record IsPlan (p : Planned) : Type 0 where
  pub distinct : IsDistinct same_key p.keys
  pub numbered : length p.order.lists ≡ length p.keys

-- each of these numbers belongs to a key, and these are the keys
abbrev pub Number : List Descriptor → List ℕ → List Descriptor → Type 0
Number keys numbers ks = map (slice_get keys) numbers ≡ map Some ks

-- the successors of each number name the keys that the source lists under its key and that are not
-- held
abbrev pub HasEdges : List Node → List Node → Planned → Type 0
HasEdges source held p = (number : ℕ) (k : Descriptor) → slice_get p.keys number ≡ Some k
    → Number p.keys (successors_of p.order.lists number) (filter (is_fresh held) (successors_at source k))

-- the key has the number at a place of the order
abbrev pub IsKeyAt : Planned → ℕ → Descriptor → Type 0
IsKeyAt p place k = (number : ℕ) × (slice_get p.order.sequence place ≡ Some number) × (slice_get p.keys number ≡ Some k)

-- the keys at the places of the order before this one
abbrev pub keys_before : ℕ → Planned → List Descriptor
keys_before place p = filter_map (slice_get p.keys) (take place p.order.sequence)

-- at each place of the order, every key that the source lists under its key is held, or has an
-- earlier place
abbrev pub FollowsListed : List Node → List Node → Planned → Type 0
FollowsListed source held p = (place number : ℕ) (k : Descriptor) → slice_get p.order.sequence place ≡ Some number → slice_get p.keys number ≡ Some k
    → All (λ to. (has_key held to ≡ true) ⊎ Contains (keys_before place p) to) (successors_at source k)
