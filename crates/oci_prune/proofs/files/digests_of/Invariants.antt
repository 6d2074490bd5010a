use Rattle.std.proofs.Common.{take}
use Rattle.oci_prune.specs.Files.{HasDigests}
use Rattle.oci_prune.proofs.files.digests_of.Given as goal

-- as far as the loop has come
abbrev pub invariant-loop-key : goal.invariant-loop-key
invariant-loop-key l = HasDigests (take l.key-index l.keys) l.digests
