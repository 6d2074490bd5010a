-- The walk that finds the keys of a plan: the keys that were visited, and the numbers of their
-- successors.
use Rattle.std.specs.Prelude.{◌≡◌, ◌↔◌, ℕ, ◌≤◌, ◌⊎◌, Bool, true, false, List, length, Some, Result, Ok, MatchResult, filter, slice_get, Contains}
use Rattle.std.specs.List.{All, AllZip, IsDistinct}
use Rattle.std.specs.Global.{Vec}
use Rattle.oci_manifest.specs.Descriptor.{Descriptor, same_key}
use Rattle.oci_manifest.specs.Manifest.{first_places}
use Rattle.oci_store.specs.Keyed.{value_at, has_key}
use Rattle.oci_store.specs.Content.{Entry, Matches, succ_of}
use Rattle.oci_store.specs.Graph.{Node, nodes_of}
use Rattle.oci_store.specs.State.{State}
use Rattle.oci_manifest.specs.declared.fault.ManifestFault.{ManifestFault}
use Rattle.oci_manifest.specs.declared.fault.ManifestFault.TheVariants as reading
use Rattle.oci_store.specs.declared.fault.FetchFault.{FetchFault}
use Rattle.oci_store.specs.declared.fault.FetchFault.TheVariants as fetch
use Rattle.oci_store.specs.Visiting.{candidates, with_key, with_keys, IsVisiting}
use Rattle.oci_plan.specs.Met.{IsMet, IsListedUnder}
use Rattle.oci_plan.specs.Outside.{IsVisited, IsToBring}
use Rattle.oci_plan.specs.Visiting.{successors_at, is_fresh, passes, IsWithin, IsSoundVisit}
use Rattle.oci_plan.specs.Plan.{Number}
use Rattle.oci_plan.specs.Refusal.{IsTrueOfKey}
use Rattle.oci_plan.specs.declared.gathering.Existing.{Existing}
use Rattle.oci_plan.specs.declared.gathering.Existing.TheVariants.{Skip, Descend}
use Rattle.oci_plan.specs.declared.fault.PlanFault.{PlanFault}
use Rattle.oci_plan.specs.declared.fault.PlanFault.TheVariants as fault

-- the key has the number n; a key that had none was added to the keys
pub record IsNumbered (old new : List Descriptor) (k : Descriptor) (n : ℕ) : Type 0 where
  pub keys : new ≡ with_key old k
  pub number : slice_get new n ≡ Some k
  pub few : length new ≤ 4294967295

-- the numbers name distinct keys that are listed; if the source is honest, they name exactly the
-- listed keys that are not held
pub record IsListOf (honest : Type 0) (entries : List Entry) (held : List Node) (keys : List Descriptor) (k : Descriptor) (numbers : Vec ℕ) : Type 0 where
  pub named : List Descriptor
  pub numbers_name : Number keys numbers.items named
  pub distinct : IsDistinct same_key named
  pub under : All (IsListedUnder entries k) named
  pub own : honest → named ≡ filter (is_fresh held) (successors_at (nodes_of entries) k)

-- the bytes match the key; if the source is honest, they are the key's bytes
pub record IsFetched (source : State) (k : Descriptor) (bytes : List ℕ) : Type 0 where
  pub matching : Matches k bytes
  pub own : source.is_honest → value_at source.entries k ≡ Some bytes

-- each of these distinct keys is listed under the key; if the source is honest, they are exactly
-- the keys that it lists there
pub record IsListing (source : State) (k : Descriptor) (keys : List Descriptor) : Type 0 where
  pub listed : source.is_honest → keys ≡ successors_at (nodes_of source.entries) k
  pub under : All (IsListedUnder source.entries k) keys
  pub distinct : IsDistinct same_key keys

-- what a key lists was read: these keys, or a fault that is true of it
abbrev pub Lists : State → ℕ → Descriptor → Result (Vec Descriptor) PlanFault → Type 0
Lists source limit k result = MatchResult result (λ keys. IsListing source k keys.items) (IsTrueOfKey source limit k)

-- the key passed its checks
pub record IsPassed (honest : Type 0) (entries : List Entry) (limit : ℕ) (k : Descriptor) : Type 0 where
  pub there : has_key entries k ≡ true
  pub within : IsWithin limit k
  pub reads : honest → (bytes : List ℕ) × (successors : List Descriptor) × (value_at entries k ≡ Some bytes) × (succ_of k bytes ≡ Ok successors)

-- the key passed its checks; or it was not checked, since it is held, as the Bool says, and the
-- source does not have it
abbrev pub MayPass : Type 0 → List Entry → Bool → ℕ → Descriptor → Type 0
MayPass honest entries is_held limit k = ((is_held ≡ true) × (has_key entries k ≡ false)) ⊎ IsPassed honest entries limit k

-- whether a visited key is held
abbrev pub held_at : Existing → List Node → Descriptor → Bool
held_at Skip held k = false
held_at Descend held k = has_key held k

-- the keys to visit: the keys to bring, or all that were met
abbrev pub visits_of : Existing → List Descriptor → List Descriptor → List Descriptor
visits_of Skip keys all = keys
visits_of Descend keys all = all

-- all keys that were met, with these added if held keys are visited too
abbrev pub noted : Existing → List Descriptor → List Descriptor → List Descriptor
noted Skip all met = all
noted Descend all met = with_keys all met

-- the plan visits the key, and the key passed its checks or was spared them
pub record IsVisitPassed (honest : Type 0) (existing : Existing) (entries : List Entry) (held : List Node) (limit : ℕ) (k : Descriptor) : Type 0 where
  pub pass : passes existing held k ≡ true
  pub may : MayPass honest entries (has_key held k) limit k

-- The state of the walk. The visited keys are the first of all keys to visit. The keys to visit are
-- taken from the roots and from the lists of the visited keys. The keys to bring are the keys to
-- visit that are not held.
pub record IsWalk (honest : Type 0) (existing : Existing) (entries : List Entry) (held : List Node) (roots : List Descriptor) (limit : ℕ) (all keys visited : List Descriptor) (lists : List (Vec ℕ)) : Type 0 where
  pub few : length keys ≤ 4294967295
  pub kept : keys ≡ filter (is_fresh held) all
  pub pass : All (λ k. passes existing held k ≡ true) all
  pub met : All (IsMet existing entries held roots) all
  pub once : (offered : List Descriptor) × (keys ≡ first_places offered)
  pub has_roots : All (λ k. (has_key held k ≡ true) ⊎ Contains keys k) roots
  pub passed : All (IsVisitPassed honest existing entries held limit) visited
  pub listed : AllZip (IsListOf honest entries held keys) (filter (is_fresh held) visited) lists
  pub visiting : honest → IsVisiting (successors_at (nodes_of entries)) (passes existing held) roots visited
  pub found : honest → all ≡ first_places (filter (passes existing held) (candidates (successors_at (nodes_of entries)) roots visited))
  pub found_keys : honest → keys ≡ first_places (filter (is_fresh held) (candidates (successors_at (nodes_of entries)) roots visited))

-- a finished walk found the keys to bring, with a list for each
pub record IsGathered (honest : Type 0) (existing : Existing) (entries : List Entry) (held : List Node) (roots : List Descriptor) (limit : ℕ) (keys : List Descriptor) (lists : List (Vec ℕ)) : Type 0 where
  pub few : length keys ≤ 4294967295
  pub fresh : All (λ k. has_key held k ≡ false) keys
  pub has_roots : All (λ k. (has_key held k ≡ true) ⊎ Contains keys k) roots
  pub passed : All (IsPassed honest entries limit) keys
  pub met : All (IsMet existing entries held roots) keys
  pub listed : AllZip (IsListOf honest entries held keys) keys lists
  pub exactly : honest → (k : Descriptor) → Contains keys k ↔ IsToBring existing (nodes_of entries) held roots k
  pub sound : honest → (k : Descriptor) → IsVisited existing (nodes_of entries) held roots k → IsSoundVisit existing entries held limit k

-- the fault of the plan for a fault of a fetch: a memory error stays one
abbrev pub fetch_refusal : Descriptor → FetchFault → PlanFault
fetch_refusal k fetch.NotFound = fault.NotFound k
fetch_refusal k fetch.Corrupt = fault.Fetch k fetch.Corrupt
fetch_refusal k fetch.Device = fault.Fetch k fetch.Device
fetch_refusal k fetch.Memory = fault.Memory

-- the fault of the plan for a fault of a manifest: a memory error stays one
abbrev pub read_refusal : Descriptor → ManifestFault → PlanFault
read_refusal k reading.NotJson = fault.Manifest k reading.NotJson
read_refusal k reading.NotObject = fault.Manifest k reading.NotObject
read_refusal k reading.NoConfig = fault.Manifest k reading.NoConfig
read_refusal k (reading.BadList member) = fault.Manifest k (reading.BadList member)
read_refusal k (reading.BadDescriptor member position) = fault.Manifest k (reading.BadDescriptor member position)
read_refusal k reading.Memory = fault.Memory
