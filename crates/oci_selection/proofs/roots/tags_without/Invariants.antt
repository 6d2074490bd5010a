use Rattle.std.proofs.Common.{◌≡◌, ◌++◌, drop}
use Rattle.oci_store.specs.Tags.{by_bytes, without_tag}
use Rattle.oci_selection.proofs.roots.tags_without.Given as goal

-- the tags found so far, followed by those that are left
abbrev pub invariant-loop-other : goal.invariant-loop-other
invariant-loop-other l = by_bytes l.others.items ++ without_tag (by_bytes (drop l.other-index l.tags)) l.name ≡ without_tag (by_bytes l.tags) l.name
