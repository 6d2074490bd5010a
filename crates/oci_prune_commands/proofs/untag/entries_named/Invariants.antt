use Rattle.std.proofs.Common.{◌≡◌, ◌++◌, drop, map}
use Rattle.oci_layout_store.specs.Entries.{entry_of}
use Rattle.oci_prune_commands.specs.Named.{entries_named}
use Rattle.oci_prune_commands.proofs.untag.entries_named.Given as goal

-- the entries found so far, followed by those that are left
abbrev pub invariant-loop-entry : goal.invariant-loop-entry
invariant-loop-entry g l = map entry_of l.named.items ++ entries_named l.name (map entry_of (drop l.entry-index l.entries)) ≡ entries_named l.name (map entry_of l.entries)
