-- The requirement on the destination of a copy.
use Rattle.std.specs.Prelude.{◌≡◌, List, Some}
use Rattle.oci_manifest.specs.Descriptor.{Descriptor}
use Rattle.oci_store.specs.Closed.{IsClosed, first_missing_successor}
use Rattle.oci_store.specs.Graph.{Node}
use Rattle.oci_plan.specs.declared.gathering.Existing.{Existing}
use Rattle.oci_plan.specs.declared.gathering.Existing.TheVariants.{Skip, Descend}

-- if a copy skips the keys that the destination has, the destination is closed; a copy that
-- descends requires nothing
abbrev pub IsClosedWhenSkipping : Existing → List Node → Type 0
IsClosedWhenSkipping Skip graph = IsClosed graph
IsClosedWhenSkipping Descend graph = Unit {0}

-- why the destination is refused: the first key that lists a missing one, with the first key that
-- it lists and that is missing; a copy that descends never refuses it
abbrev pub IsNotClosedWhenSkipping : Existing → List Node → Descriptor → Descriptor → Type 0
IsNotClosedWhenSkipping Skip graph holder missing = first_missing_successor graph ≡ Some (holder, missing)
IsNotClosedWhenSkipping Descend graph holder missing = ⊥
