use Rattle.std.proofs.Common.{◌≡◌, ◌++◌, drop}
use Rattle.oci_store.specs.Tags.{by_bytes}
use Rattle.oci_layout_copy.proofs.goal.with_copies.Given as goal

-- the tags so far, followed by those that are left
abbrev pub invariant-loop-name : goal.invariant-loop-name
invariant-loop-name l = by_bytes l.all.items ++ by_bytes (drop l.name-index l.others) ≡ by_bytes l.fn.tags.items ++ by_bytes l.others
