use Rattle.std.proofs.Common.{◌≡◌, map}
use Rattle.oci_layout_store.specs.Brought.{staying}
use Rattle.oci_layout_store.specs.Entries.{entry_of}
use Rattle.oci_layout_store.proofs.opened_index.staying.Given as goal

-- as far as the loop has come
abbrev pub invariant-loop-entry : goal.invariant-loop-entry
invariant-loop-entry l = map entry_of l.stay.items ≡ staying l.fn.each (map entry_of l.names) (map entry_of l.yielded)
