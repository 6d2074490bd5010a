use Rattle.std.proofs.Common.{◌≡◌, ◌++◌, drop, map}
use Rattle.oci_layout_store.specs.Entries.{entry_of}
use Rattle.oci_layout_copy.specs.Goal.{forgotten_entries}
use Rattle.oci_entries.specs.Pattern.{texts_of}
use Rattle.oci_layout_copy.proofs.kept.forgotten_entries.Given as goal

-- the entries found so far, followed by those that are left
abbrev pub invariant-loop-entry : goal.invariant-loop-entry
invariant-loop-entry l =
    map entry_of l.found.items ++ forgotten_entries (texts_of l.patterns) l.gone l.selected (map entry_of (drop l.entry-index l.entries)) ≡ forgotten_entries (texts_of l.patterns) l.gone l.selected (map entry_of l.entries)
