use Rattle.std.proofs.Common.{◌≡◌, ◌++◌, map, drop}
use Rattle.oci_layout_store.specs.Brought.{staying}
use Rattle.oci_layout_store.specs.Entries.{entry_keys, entry_of}
use Rattle.oci_layout_store.proofs.opened_index.staying_keys.Given as goal

-- the keys found so far, followed by those that are left
abbrev pub invariant-loop-entry : goal.invariant-loop-entry
invariant-loop-entry l = l.keys.items ++ entry_keys (staying l.each (map entry_of l.names) (map entry_of (drop l.entry-index l.old))) ≡ entry_keys (staying l.each (map entry_of l.names) (map entry_of l.old))
