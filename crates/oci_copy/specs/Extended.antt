-- Extended copies, whose roots are the keys with a path to a key (oras-go v2, "ExtendedCopy").
use Rattle.std.specs.Prelude.{◌≡◌, ℕ, ◌⊎◌, List, []}
use Rattle.oci_manifest.specs.Descriptor.{Descriptor}
use Rattle.oci_store.specs.State.{State}
use Rattle.oci_plan.specs.Up.{IsUp}
use Rattle.oci_copy.specs.Tagged.{ResolvesIn}

-- it holds of the list of all keys of the source with a path within the depth to the key
abbrev pub OfUp : State → Descriptor → ℕ → (List Descriptor → Type 0) → Type 0
OfUp source k depth holds = (roots : List Descriptor) × IsUp source.nodes k depth roots × holds roots

-- there are no roots yet, or they are the keys with a path within the depth to the key
abbrev pub AreRootsOf : State → Descriptor → ℕ → List Descriptor → Type 0
AreRootsOf source k depth roots = (roots ≡ []) ⊎ IsUp source.nodes k depth roots

-- there are no roots yet, or the reference resolves to a key and they are the keys with a path
-- within the depth to it
abbrev pub AreRootsOfReference : State → List ℕ → ℕ → List Descriptor → Type 0
AreRootsOfReference source name depth roots = (roots ≡ []) ⊎ ((k : Descriptor) × ResolvesIn source name k × IsUp source.nodes k depth roots)
