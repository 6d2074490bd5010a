use Rattle.std.proofs.Common.{◌≡◌, take}
use Rattle.std.specs.Map.{values_of}
use Rattle.oci_store.specs.Tags.{by_bytes}
use Rattle.oci_prune.proofs.held.named_keys.Given as goal

-- as far as the loop has come
abbrev pub invariant-loop-tag : goal.invariant-loop-tag
invariant-loop-tag l = l.keys.items ≡ values_of (by_bytes (take l.tag-index l.tags))
