-- Destinations that a copy goes to.
use Rattle.std.proofs.Common.{◌≡◌, List, Some, None, sym, ◌∙◌}
use Rattle.oci_manifest.specs.Descriptor.{Descriptor}
use Rattle.oci_store.specs.Closed.{IsClosed}
use Rattle.oci_store.specs.Graph.{Node}
use Rattle.oci_store.proofs.ClosedGraphs.{first_missing_successor-from_IsClosed}
use Rattle.oci_plan.specs.declared.gathering.Existing.{Existing}
use Rattle.oci_plan.specs.declared.gathering.Existing.TheVariants.{Skip, Descend}
use Rattle.oci_copy.specs.Destination.{IsClosedWhenSkipping, IsNotClosedWhenSkipping}

-- a closed destination is closed where a copy skips
pub closed_when_skipping : (existing : Existing) (graph : List Node) → IsClosed graph → IsClosedWhenSkipping existing graph
closed_when_skipping Skip graph closed = closed
closed_when_skipping Descend graph closed = tt

-- a closed destination is not refused as not closed
pub closed_not_refused : (existing : Existing) (graph : List Node) (holder missing : Descriptor) → IsClosedWhenSkipping existing graph → IsNotClosedWhenSkipping existing graph holder missing → ⊥
closed_not_refused Skip graph holder missing closed is =
    let both : Some (holder, missing) ≡ None = sym is ∙ first_missing_successor-from_IsClosed graph closed in
    cc both
closed_not_refused Descend graph holder missing closed is = is
