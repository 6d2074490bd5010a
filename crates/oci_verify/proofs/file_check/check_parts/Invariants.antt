use Rattle.std.proofs.Common.{List, ℕ}
use Rattle.std.specs.Prelude.{⊤}
use Rattle.oci_layout_store.specs.Blobs.{stored}
use Rattle.oci_store.specs.Keyed.{value_at}
use Rattle.oci_store.specs.Parts.{IsReading}
use Rattle.oci_verify.proofs.file_check.check_parts.Given as goal

-- these bytes were read so far
abbrev pub invariant-loop-part : goal.invariant-loop-part
invariant-loop-part g l =
    let device = g.D.Dir.device l.layout.dir in
    (m : List ℕ) × IsReading l.hasher (λ bytes. ⊤) l.key device.is_honest (value_at (stored device.file l.layout.graph) l.key) l.left m

abbrev pub decreases-loop-part : goal.decreases-loop-part
decreases-loop-part g l = l.left
