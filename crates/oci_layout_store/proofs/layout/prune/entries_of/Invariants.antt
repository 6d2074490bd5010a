use Rattle.std.proofs.Common.{◌≡◌, ◌++◌}
use Rattle.oci_layout_store.proofs.layout.prune.entries_of.Given as goal

-- the entries so far and those that are left are all
abbrev pub invariant-loop-digest : goal.invariant-loop-digest
invariant-loop-digest l = l.entries.items ++ l.digest-iterator ≡ l.sizes.entries
