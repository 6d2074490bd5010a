-- When there is no plan, and the meaning of each fault.
use Rattle.std.specs.Prelude.{◌≡◌, ◌≢◌, ℕ, ◌<◌, true, false, List, length, filter, Some, Err}
use Rattle.std.specs.List.{All, IsDistinct}
use Rattle.oci_manifest.specs.Descriptor.{Descriptor, same_key}
use Rattle.oci_manifest.specs.Manifest.{first_places}
use Rattle.oci_manifest.specs.MediaTypes.{kind_of}
use Rattle.oci_manifest.specs.Fault.{Fault, IsFault}
use Rattle.oci_manifest.specs.declared.kind.Kind.TheVariants.{Leaf}
use Rattle.oci_manifest.specs.declared.fault.ManifestFault.{ManifestFault}
use Rattle.oci_store.specs.Keyed.{value_at, has_key, HasAll}
use Rattle.oci_store.specs.Content.{Entry, Matches, succ_of}
use Rattle.oci_store.specs.Graph.{Node, nodes_of}
use Rattle.oci_store.specs.State.{State}
use Rattle.oci_store.specs.declared.fault.FetchFault.{FetchFault}
use Rattle.oci_store.specs.declared.fault.FetchFault.TheVariants as fetch
use Rattle.oci_plan.specs.Fault.{Names}
use Rattle.oci_plan.specs.Met.{IsListedUnder, NamesMet}
use Rattle.oci_plan.specs.Outside.{IsVisited, IsToBring, IsCycleAlong, IsKeyCycle}
use Rattle.oci_store.specs.Visiting.{candidates, IsVisiting}
use Rattle.oci_plan.specs.Visiting.{successors_at, is_fresh, passes, IsWithin, IsOnlyInDestination, IsSoundVisit, IsNextVisited}
use Rattle.oci_plan.specs.declared.gathering.Existing.{Existing}
use Rattle.oci_plan.specs.declared.fault.PlanFault.{PlanFault}
use Rattle.oci_plan.specs.declared.fault.PlanFault.TheVariants as fault

-- the key is a manifest's, and its size is over the limit
abbrev pub IsTooLarge : ℕ → Descriptor → Type 0
IsTooLarge limit k = (kind_of k.media_type ≢ Leaf) × (limit < k.size)

-- the device has other bytes, and the source is not sound; or the device could not be read
abbrev pub IsDeviceFault : State → FetchFault → Type 0
IsDeviceFault source fetch.NotFound = ⊥
IsDeviceFault source fetch.Corrupt = source.is_sound → ⊥
IsDeviceFault source fetch.Device = Unit {0}
IsDeviceFault source fetch.Memory = ⊥

-- bytes that match the key do not read, for this reason, which is no memory error; if the source is
-- honest, they are the key's bytes
pub record IsUnread (honest : Type 0) (entries : List Entry) (k : Descriptor) (e : ManifestFault) : Type 0 where
  pub bytes : List ℕ
  pub cause : Fault
  pub matching : Matches k bytes
  pub own : honest → value_at entries k ≡ Some bytes
  pub breaks : succ_of k bytes ≡ Err cause
  pub tells : IsFault e cause

-- One or more distinct keys are a cycle: bytes that match each of them list the next. The source
-- has each, and the size of each is within the limit.
pub record IsListedCycle (entries : List Entry) (limit : ℕ) (keys : List Descriptor) : Type 0 where
  pub cycle : IsCycleAlong (IsListedUnder entries) keys
  pub there : HasAll entries keys
  pub within : All (IsWithin limit) keys

-- The fault is true of the keys that it names. Each check is made only if the checks before it
-- pass. A leaf is not fetched.
abbrev pub IsKeyFault : State → ℕ → PlanFault → Type 0
IsKeyFault source limit (fault.TooLarge k l) = (l ≡ limit) × IsTooLarge limit k
IsKeyFault source limit (fault.NotFound k) = IsWithin limit k × (has_key source.entries k ≡ false)
IsKeyFault source limit (fault.Fetch k e) = (kind_of k.media_type ≢ Leaf) × IsWithin limit k × (has_key source.entries k ≡ true) × (source.fails_at k ≡ true) × IsDeviceFault source e
IsKeyFault source limit (fault.Manifest k e) = IsWithin limit k × (has_key source.entries k ≡ true) × IsUnread source.is_honest source.entries k e
IsKeyFault source limit (fault.Cycle keys) = IsListedCycle source.entries limit keys.items
IsKeyFault source limit fault.Memory = Unit {0}
IsKeyFault source limit fault.TooMany = Unit {0}

-- the fault names this key, or is a memory error
abbrev pub IsOfKey : Descriptor → PlanFault → Type 0
IsOfKey k e = Names (λ named. named ≡ k) (λ keys. ⊥) ⊥ e

-- the fault is true of this key, or is a memory error
pub record IsTrueOfKey (source : State) (limit : ℕ) (k : Descriptor) (e : PlanFault) : Type 0 where
  pub cause : IsKeyFault source limit e
  pub named : IsOfKey k e

-- the fault names no key that only the destination has
abbrev pub NamesNoneOnlyInDestination : List Entry → List Node → PlanFault → Type 0
NamesNoneOnlyInDestination entries held e =
    Names (λ k. IsOnlyInDestination entries held k → ⊥) (All (λ k. IsOnlyInDestination entries held k → ⊥)) (Unit {0}) e

-- The fault names a key that the plan visits; a plan that stops at held keys visits none that is
-- held. The keys of a cycle are not held.
abbrev pub NamesVisited : Existing → List Node → PlanFault → Type 0
NamesVisited existing held e = Names (λ k. passes existing held k ≡ true) (All (λ k. has_key held k ≡ false)) (Unit {0}) e

-- the keys are a cycle of the source, all of them are keys to bring, and every visited key is sound
abbrev pub IsCycleToBring : Existing → List Entry → List Node → List Descriptor → ℕ → List Descriptor → Type 0
IsCycleToBring existing entries held roots limit keys = IsKeyCycle (nodes_of entries) keys × All (IsToBring existing (nodes_of entries) held roots) keys
    × ((k : Descriptor) → IsVisited existing (nodes_of entries) held roots k → IsSoundVisit existing entries held limit k)

-- Every key visited so far is sound. Of the roots and the keys that the visited keys list, each
-- taken once, more than 4294967295 are not held. All of these are keys to bring.
pub record HasTooMany (existing : Existing) (entries : List Entry) (held : List Node) (roots : List Descriptor) (limit : ℕ) : Type 0 where
  pub visited : List Descriptor
  pub visiting : IsVisiting (successors_at (nodes_of entries)) (passes existing held) roots visited
  pub sound : All (IsSoundVisit existing entries held limit) visited
  pub keys : List Descriptor
  pub found : keys ≡ first_places (filter (is_fresh held) (candidates (successors_at (nodes_of entries)) roots visited))
  pub many : 4294967295 < length keys
  pub distinct : IsDistinct same_key keys
  pub outside : All (IsToBring existing (nodes_of entries) held roots) keys

-- The first fault of an honest source. If the fault names a key, every key visited before it is
-- sound. If it names a cycle, the keys of the cycle are keys to bring, and every visited key is
-- sound. If there are too many keys, they are keys to bring, and every key visited so far is sound.
abbrev pub IsFirstFault : Existing → List Entry → List Node → List Descriptor → ℕ → PlanFault → Type 0
IsFirstFault existing entries held roots limit e = Names (IsNextVisited existing (nodes_of entries) entries held roots limit)
    (IsCycleToBring existing entries held roots limit) (HasTooMany existing entries held roots limit) e

-- The fault is true of the keys that it names: the walk met and visits each, and none is only in
-- the destination. If the source is honest, it is the first.
pub record IsTrueOfWalk (existing : Existing) (source destination : State) (roots : List Descriptor) (limit : ℕ) (e : PlanFault) : Type 0 where
  pub cause : IsKeyFault source limit e
  pub spared : NamesNoneOnlyInDestination source.entries destination.nodes e
  pub named : NamesVisited existing destination.nodes e
  pub met : NamesMet existing source.entries destination.nodes roots e
  pub first : source.is_honest → IsFirstFault existing source.entries destination.nodes roots limit e
