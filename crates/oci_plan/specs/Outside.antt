-- The keys that a copy has to push, and cycles of keys.
use Rattle.std.specs.Prelude.{◌≡◌, ℕ, ◌+◌, ◌-◌, ◌<◌, false, List, length, Some, Contains, slice_get}
use Rattle.std.specs.List.{IsDistinct}
use Rattle.oci_manifest.specs.Descriptor.{Descriptor, same_key}
use Rattle.oci_store.specs.Keyed.{has_key}
use Rattle.oci_store.specs.Graph.{Node, IsEdge, Reaches}
use Rattle.oci_plan.specs.declared.gathering.Existing.{Existing}
use Rattle.oci_plan.specs.declared.gathering.Existing.TheVariants.{Skip, Descend}

-- a path of the source leads from a root to the key, and no key of the path is held
pub data IsOutside (source held : List Node) (roots : List Descriptor) : Descriptor → Type 0 where
  root : {k : Descriptor} → Contains roots k → has_key held k ≡ false → IsOutside source held roots k
  along : {from to : Descriptor} → IsOutside source held roots from → IsEdge source from to → has_key held to ≡ false → IsOutside source held roots to

-- the key is reached from a root, even through held keys, and is not held itself
abbrev pub IsLacking : List Node → List Node → List Descriptor → Descriptor → Type 0
IsLacking source held roots k = Reaches source roots k × (has_key held k ≡ false)

-- the keys that a plan visits: those that are outside, or all that are reached
abbrev pub IsVisited : Existing → List Node → List Node → List Descriptor → Descriptor → Type 0
IsVisited Skip source held roots = IsOutside source held roots
IsVisited Descend source held roots = Reaches source roots

-- the keys that a plan has to bring: those that are outside, or all that are lacking
abbrev pub IsToBring : Existing → List Node → List Node → List Descriptor → Descriptor → Type 0
IsToBring Skip source held roots = IsOutside source held roots
IsToBring Descend source held roots = IsLacking source held roots

-- a cycle: one or more distinct keys; each leads to the next, and the last to the first
pub record IsCycleAlong (leads : Descriptor → Descriptor → Type 0) (keys : List Descriptor) : Type 0 where
  pub some : 0 < length keys
  pub distinct : IsDistinct same_key keys
  pub path : (i : ℕ) (from to : Descriptor) → slice_get keys i ≡ Some from → slice_get keys (i + 1) ≡ Some to → leads from to
  pub closes : (from to : Descriptor) → slice_get keys (length keys - 1) ≡ Some from → slice_get keys 0 ≡ Some to → leads from to

-- a cycle along the edges of the source
abbrev pub IsKeyCycle : List Node → List Descriptor → Type 0
IsKeyCycle source = IsCycleAlong (IsEdge source)
