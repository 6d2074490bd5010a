use Rattle.std.proofs.Common.{List, ℕ}
use Rattle.oci_store.specs.Parts.{IsReading}
use Rattle.oci_query_commands.proofs.ForeignLayers.{Unkept}
use Rattle.oci_query_commands.proofs.foreign.is_wrong_in_parts.Given as goal

-- these bytes were read so far
abbrev pub invariant-loop-part : goal.invariant-loop-part
invariant-loop-part g l =
    let device = g.D.Dir.device l.dir in
    (m : List ℕ) × IsReading l.hasher Unkept l.key device.is_honest (device.file l.path) l.left m

abbrev pub decreases-loop-part : goal.decreases-loop-part
decreases-loop-part g l = l.left
