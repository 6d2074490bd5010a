use Rattle.std.proofs.Common.{◌≡◌, None, take}
use Rattle.oci_query_commands.specs.Answered.{AreUndamaged}
use Rattle.oci_query_commands.proofs.left_out.fault_of_manifests.Given as goal

-- as far as the loop has come
abbrev pub invariant-loop-key : goal.invariant-loop-key
invariant-loop-key g l = (l.last ≡ None → l.fn.before ≡ None) × (l.last ≡ None → AreUndamaged (g.D.Dir.device l.layout.dir) (take l.key-index l.manifests))
