use Rattle.std.proofs.Common.{◌≡◌, ◌++◌, drop, map}
use Rattle.oci_layout_store.specs.Entries.{entry_of}
use Rattle.oci_layout_copy.specs.Goal.{entries_of_names}
use Rattle.oci_layout_copy.proofs.kept.entries_of_names.Given as goal

-- the entries found so far, followed by those that are left
abbrev pub invariant-loop-entry : goal.invariant-loop-entry
invariant-loop-entry l = map entry_of l.found.items ++ entries_of_names l.tags (map entry_of (drop l.entry-index l.entries)) ≡ entries_of_names l.tags (map entry_of l.entries)
