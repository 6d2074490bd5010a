use Rattle.std.proofs.Common.{take}
use Rattle.std.specs.Prelude.{◌↔◌, Contains}
use Rattle.oci_manifest.specs.Descriptor.{Descriptor}
use Rattle.oci_selection.specs.Selected.{IsClimbedOfKeys}
use Rattle.oci_selection.proofs.roots.climb_from_all.Given as goal

-- the roots are those of a copy of the keys so far
abbrev pub invariant-loop-key : goal.invariant-loop-key
invariant-loop-key g l = (root : Descriptor) → Contains l.roots root ↔ IsClimbedOfKeys (g.A.Store.state l.source).nodes l.referrers (take l.key-index l.keys) root
