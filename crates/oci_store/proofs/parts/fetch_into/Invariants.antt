use Rattle.std.proofs.Common.{List, ℕ}
use Rattle.oci_store.specs.Keyed.{value_at}
use Rattle.oci_store.specs.Parts.{IsReading}
use Rattle.oci_store.proofs.parts.fetch_into.Given as goal

abbrev pub invariant-loop-part : goal.invariant-loop-part
invariant-loop-part g l = (m : List ℕ) × IsReading l.hasher (g.W.Drafting.drafted l.draft) l.key (g.A.Store.state l.source).is_honest (value_at (g.A.Store.state l.source).entries l.key) l.left m

abbrev pub decreases-loop-part : goal.decreases-loop-part
decreases-loop-part g l = l.left
