use Rattle.std.proofs.Common.{◌≡◌, take}
use Rattle.oci_store.specs.Tags.{by_bytes}
use Rattle.oci_prune.specs.Attached.{independent_tags}
use Rattle.oci_prune.proofs.followers.tags_without.Given as goal

-- as far as the loop has come
abbrev pub invariant-loop-name : goal.invariant-loop-name
invariant-loop-name l = by_bytes l.found.items ≡ independent_tags l.keys (by_bytes (take l.name-index l.tags))
