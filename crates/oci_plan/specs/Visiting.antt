-- The keys that a plan visits, and the keys that it may pass without a fault.
use Rattle.std.specs.Prelude.{◌≡◌, ◌≢◌, ℕ, ◌≤◌, ◌⊎◌, Bool, true, false, not, List, [], ◌∷◌, ◌++◌, Some, unwrap_or, IsOk}
use Rattle.std.specs.List.{All}
use Rattle.oci_manifest.specs.Descriptor.{Descriptor}
use Rattle.oci_manifest.specs.MediaTypes.{kind_of}
use Rattle.oci_manifest.specs.declared.kind.Kind.TheVariants.{Leaf}
use Rattle.oci_store.specs.Keyed.{value_at, has_key}
use Rattle.oci_store.specs.Content.{Entry, succ_of}
use Rattle.oci_store.specs.Graph.{Node}
use Rattle.oci_store.specs.Visiting.{IsVisiting}
use Rattle.oci_plan.specs.declared.gathering.Existing.{Existing}
use Rattle.oci_plan.specs.declared.gathering.Existing.TheVariants.{Skip, Descend}

-- the keys that the source lists under a key; none if it does not have the key
abbrev pub successors_at : List Node → Descriptor → List Descriptor
successors_at source k = unwrap_or (value_at source k) []

-- whether a key is not held
abbrev pub is_fresh : List Node → Descriptor → Bool
is_fresh held k = not (has_key held k)

-- whether a plan visits a key: if it is not held, or always
abbrev pub passes : Existing → List Node → Descriptor → Bool
passes Skip held = is_fresh held
passes Descend held = λ _. true

-- a manifest is at most as large as the limit; a leaf may have any size
abbrev pub IsWithin : ℕ → Descriptor → Type 0
IsWithin limit k = kind_of k.media_type ≢ Leaf → k.size ≤ limit

-- the source has the key, and a manifest's size is within the limit
pub record IsAdmitted (entries : List Entry) (limit : ℕ) (k : Descriptor) : Type 0 where
  pub there : has_key entries k ≡ true
  pub within : IsWithin limit k

-- the source has the key; a manifest's size is within the limit, and its bytes read
pub record IsSoundItem (entries : List Entry) (limit : ℕ) (k : Descriptor) : Type 0 where
  pub there : has_key entries k ≡ true
  pub within : IsWithin limit k
  pub reads : (bytes : List ℕ) → value_at entries k ≡ Some bytes → IsOk (succ_of k bytes)

-- the destination has the key, and the source does not
abbrev pub IsOnlyInDestination : List Entry → List Node → Descriptor → Type 0
IsOnlyInDestination entries held k = (has_key held k ≡ true) × (has_key entries k ≡ false)

-- a visited key is sound: it is a sound item of the source; if held keys are visited too, it may
-- also be a key that only the destination has
abbrev pub IsSoundVisit : Existing → List Entry → List Node → ℕ → Descriptor → Type 0
IsSoundVisit Skip entries held limit = IsSoundItem entries limit
IsSoundVisit Descend entries held limit = λ k. IsOnlyInDestination entries held k ⊎ IsSoundItem entries limit k

-- the key is the next to visit: it is the last of a visiting list, and every key visited before it
-- is sound
abbrev pub IsNextVisited : Existing → List Node → List Entry → List Node → List Descriptor → ℕ → Descriptor → Type 0
IsNextVisited existing source entries held roots limit k = (earlier : List Descriptor)
    × IsVisiting (successors_at source) (passes existing held) roots (earlier ++ k ∷ []) × All (IsSoundVisit existing entries held limit) earlier
