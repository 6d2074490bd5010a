use Rattle.std.proofs.Common.{◌≡◌, take}
use Rattle.std.specs.List.{filter}
use Rattle.oci_manifest.specs.Manifest.{first_places}
use Rattle.oci_store.specs.Keyed.{has_key}
use Rattle.oci_plan.proofs.gathering.held_roots.Given as goal

-- the held keys of the roots so far
abbrev pub invariant-loop-root : goal.invariant-loop-root
invariant-loop-root g l = l.held ≡ first_places (filter (has_key (g.D.Store.state l.destination).nodes) (take l.root-index l.roots))
