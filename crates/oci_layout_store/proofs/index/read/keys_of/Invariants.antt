use Rattle.std.proofs.Common.{◌≡◌, map, take}
use Rattle.oci_layout_store.specs.Entries.{entry_keys, entry_of}
use Rattle.oci_layout_store.proofs.index.read.keys_of.Given as goal

abbrev pub invariant-loop-entry : goal.invariant-loop-entry
invariant-loop-entry l = l.keys.items ≡ entry_keys (map entry_of (take l.entry-index l.entries))
