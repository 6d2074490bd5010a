-- The answers of a look about its list.
use Rattle.std.specs.Prelude.{◌≡◌, ℕ, true, false, List, Some, Option, Result, Ok, Err, slice_get, IsSome}
use Rattle.oci_manifest.specs.Descriptor.{Descriptor}
use Rattle.oci_store.specs.Content.{Entry, Matches}
use Rattle.oci_store.specs.Keyed.{value_at, has_key}
use Rattle.oci_live.specs.declared.fault.LookFault.{LookFault}
use Rattle.oci_live.specs.declared.fault.LookFault.TheVariants as fault

-- it holds of the answer; or the answer is `Unavailable`, and the look is unchanged
abbrev pub IsAnswer : {X : Type 0} → Type 0 → (Result X LookFault → Type 0) → Result X LookFault → Type 0
IsAnswer {X} unchanged holds (Ok x) = holds (Ok x)
IsAnswer {X} unchanged holds (Err fault.NotFound) = holds (Err fault.NotFound)
IsAnswer {X} unchanged holds (Err fault.Unavailable) = unchanged
IsAnswer {X} unchanged holds (Err fault.Memory) = holds (Err fault.Memory)

-- the bytes under the key, which match it; `NotFound` only if the key is not held, and a memory
-- error only if it is held
abbrev pub IsContentAt : List Entry → Descriptor → Result (List ℕ) LookFault → Type 0
IsContentAt entries k (Ok bytes) = (value_at entries k ≡ Some bytes) × Matches k bytes
IsContentAt entries k (Err fault.NotFound) = has_key entries k ≡ false
IsContentAt entries k (Err fault.Unavailable) = ⊥
IsContentAt entries k (Err fault.Memory) = has_key entries k ≡ true

-- the entry at the place, if there is one; a memory error only if there is one
abbrev pub IsEntryAt : List Entry → ℕ → Result (Option Entry) LookFault → Type 0
IsEntryAt entries place (Ok found) = found ≡ slice_get entries place
IsEntryAt entries place (Err fault.NotFound) = ⊥
IsEntryAt entries place (Err fault.Unavailable) = ⊥
IsEntryAt entries place (Err fault.Memory) = IsSome (slice_get entries place)
