use Rattle.std.proofs.Common.{◌≡◌, ◌++◌, drop, map}
use Rattle.oci_layout_store.specs.Entries.{entry_of}
use Rattle.oci_entries.specs.Pattern.{matching_entries, texts_of}
use Rattle.oci_entries.proofs.matching.matching_entries.Given as goal

-- the entries found so far, followed by those that are left
abbrev pub invariant-loop-entry : goal.invariant-loop-entry
invariant-loop-entry l = map entry_of l.found.items ++ matching_entries (texts_of l.patterns) (map entry_of (drop l.entry-index l.entries)) ≡ matching_entries (texts_of l.patterns) (map entry_of l.entries)
