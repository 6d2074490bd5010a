use Rattle.std.proofs.Common.{take}
use Rattle.oci_store.specs.Tags.{by_bytes}
use Rattle.oci_prune.specs.Attached.{AreStemmed}
use Rattle.oci_prune.proofs.followers.followers_of.Given as goal

-- as far as the loop has come
abbrev pub invariant-loop-tag : goal.invariant-loop-tag
invariant-loop-tag l = AreStemmed (by_bytes (take l.tag-index l.tags)) l.followers
