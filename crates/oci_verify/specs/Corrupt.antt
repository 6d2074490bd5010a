-- The keys of a layout whose files are damaged or do not match them.
use Rattle.std.specs.Prelude.{◌≡◌, ◌↔◌, ◌⊎◌, ◌<◌, ◌&&◌, ℕ, Bool, true, false, not, List, length, Option, option_map, slice_get, Some, None, Contains}
use Rattle.std.specs.BTreeSet.{BTreeSet, contains}
use Rattle.std.specs.List.{slice_index_or}
use Rattle.std.specs.List.Sorted.{IsStrictlySortedBy}
use Rattle.oci_dir.specs.Device.{Device, File}
use Rattle.oci_manifest.specs.Descriptor.{Descriptor, key_cmp}
use Rattle.oci_store.specs.Graph.{Node}
use Rattle.oci_store.specs.Keyed.{has_key}
use Rattle.oci_verify.specs.Intact.{is_matching, HasFile}

-- these are the keys with damaged files, and the held keys whose files do not match them, each once,
-- in key order
pub record AreCorrupt (file : File) (graph : List Node) (damaged : List Descriptor) (keys : List Descriptor) : Type 0 where
  pub each : (k : Descriptor) → Contains keys k ↔ (Contains damaged k ⊎ ((has_key graph k ≡ true) × (is_matching file k ≡ false)))
  pub order : IsStrictlySortedBy key_cmp keys

-- ---- some keys alone

-- whether a key is asked for: it is in the set, or there is none
abbrev pub is_asked : Option (BTreeSet Descriptor) → Descriptor → Bool
is_asked None k = true
is_asked (Some keys) k = contains key_cmp keys k

-- the same of the keys that are asked for
pub record AreCorruptOf (is_asked : Descriptor → Bool) (file : File) (graph : List Node) (damaged : List Descriptor) (keys : List Descriptor) : Type 0 where
  pub each : (k : Descriptor) → Contains keys k ↔ ((is_asked k ≡ true) × (Contains damaged k ⊎ ((has_key graph k ≡ true) × (is_matching file k ≡ false))))
  pub order : IsStrictlySortedBy key_cmp keys

-- ---- the answers of the checks

-- the answer for a number is whether the held key at this place is asked for, and its file does not
-- match it
abbrev pub IsAnswer : (Descriptor → Bool) → Device → List Node → ℕ → Bool → Type 0
IsAnswer is_asked dir graph number corrupt = (k : Descriptor) → option_map (λ (n : Node). n.0) (slice_get graph number) ≡ Some k → HasFile dir k → corrupt ≡ (is_asked k && not (is_matching dir.file k))

-- there is an answer for each held key, in their order
pub record AreAnswers (is_asked : Descriptor → Bool) (dir : Device) (graph : List Node) (answers : List Bool) : Type 0 where
  pub count : length answers ≡ length graph
  pub each : (n : ℕ) (d : Bool) → n < length answers → IsAnswer is_asked dir graph n (slice_index_or answers n d)
