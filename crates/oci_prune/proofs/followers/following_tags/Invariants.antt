use Rattle.std.proofs.Common.{◌≡◌, ℕ, List, filter, take}
use Rattle.oci_manifest.specs.Descriptor.{Descriptor}
use Rattle.oci_store.specs.Tags.{by_bytes}
use Rattle.oci_prune.specs.Attached.{follows_one}
use Rattle.oci_prune.proofs.followers.following_tags.Given as goal

-- as far as the loop has come
abbrev pub invariant-loop-tag : goal.invariant-loop-tag
invariant-loop-tag l = by_bytes l.following.items ≡ filter (λ (tag : List ℕ × Descriptor). follows_one l.subjects tag.0) (by_bytes (take l.tag-index l.tags))
