use Rattle.std.proofs.Common.{◌≡◌, ◌++◌, drop}
use Rattle.oci_store.specs.Tags.{by_bytes}
use Rattle.oci_entries.specs.Pattern.{matching_tags, texts_of}
use Rattle.oci_entries.proofs.matching.matching_tags.Given as goal

-- the tags found so far, followed by those that are left
abbrev pub invariant-loop-name : goal.invariant-loop-name
invariant-loop-name l = by_bytes l.found.items ++ matching_tags (texts_of l.patterns) (by_bytes (drop l.name-index l.tags)) ≡ matching_tags (texts_of l.patterns) (by_bytes l.tags)
