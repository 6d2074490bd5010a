-- The keys that a plan meets on its way from the roots, whatever bytes the source's device has now.
use Rattle.std.specs.Prelude.{◌≡◌, ℕ, ◌<◌, true, false, List, length, Contains}
use Rattle.std.specs.List.{All, IsDistinct}
use Rattle.oci_manifest.specs.Descriptor.{Descriptor, same_key}
use Rattle.oci_store.specs.Keyed.{has_key}
use Rattle.oci_store.specs.Content.{Entry, IsChecked}
use Rattle.oci_store.specs.Graph.{Node}
use Rattle.oci_plan.specs.Fault.{Names}
use Rattle.oci_plan.specs.Visiting.{passes}
use Rattle.oci_plan.specs.declared.gathering.Existing.{Existing}
use Rattle.oci_plan.specs.declared.fault.PlanFault.{PlanFault}

-- the source has the first key, and bytes that match it list the second
pub record IsListedUnder (entries : List Entry) (from to : Descriptor) : Type 0 where
  pub there : has_key entries from ≡ true
  pub bytes : List ℕ
  pub listed : List Descriptor
  pub checked : IsChecked from bytes listed
  pub lists : Contains listed to

-- a path leads from a root to the key, and the plan visits each key of the path
pub data IsMet (existing : Existing) (entries : List Entry) (held : List Node) (roots : List Descriptor) : Descriptor → Type 0 where
  root : {k : Descriptor} → Contains roots k → passes existing held k ≡ true → IsMet existing entries held roots k
  along : {from to : Descriptor} → IsMet existing entries held roots from → IsListedUnder entries from to → passes existing held to ≡ true → IsMet existing entries held roots to

-- these are more than 4294967295 distinct keys; none is held, and all were met
pub record AreTooMany (existing : Existing) (entries : List Entry) (held : List Node) (roots keys : List Descriptor) : Type 0 where
  pub many : 4294967295 < length keys
  pub distinct : IsDistinct same_key keys
  pub fresh : All (λ k. has_key held k ≡ false) keys
  pub met : All (IsMet existing entries held roots) keys

-- every key that the fault names was met; if it reports too many keys, there are too many keys that
-- were met
abbrev pub NamesMet : Existing → List Entry → List Node → List Descriptor → PlanFault → Type 0
NamesMet existing entries held roots e = Names (IsMet existing entries held roots) (All (IsMet existing entries held roots))
    ((keys : List Descriptor) × AreTooMany existing entries held roots keys) e
