use Rattle.std.proofs.Common.{◌≡◌}
use Rattle.oci_store.specs.Tags.{by_bytes}
use Rattle.oci_prune_commands.specs.PruneText.{tags_of}
use Rattle.oci_prune_commands.proofs.answer.tagged.Given as goal

-- the tags so far
abbrev pub invariant-loop-tag : goal.invariant-loop-tag
invariant-loop-tag l = tags_of l.tagged.items ≡ by_bytes l.yielded
