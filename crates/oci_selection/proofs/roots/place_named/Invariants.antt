use Rattle.std.proofs.Common.{◌≡◌, map, take}
use Rattle.oci_store.specs.Visiting.{with_keys}
use Rattle.oci_layout_store.specs.Entries.{entry_keys, entry_of}
use Rattle.oci_selection.proofs.roots.place_named.Given as goal

-- as far as the loop has come
abbrev pub invariant-loop-entry : goal.invariant-loop-entry
invariant-loop-entry l = l.keys ≡ with_keys l.fn.keys (entry_keys (map entry_of (take l.entry-index l.entries)))
