use Rattle.std.proofs.Common.{◌≡◌, ◌++◌}
use Rattle.oci_store.specs.Tags.{by_bytes}
use Rattle.oci_store.proofs.tags.Tags.to_vec.Given as goal

-- the names so far and those that are left are all
abbrev pub invariant-loop-name : goal.invariant-loop-name
invariant-loop-name l = by_bytes l.tags.items ++ by_bytes l.name-iterator ≡ l.self
