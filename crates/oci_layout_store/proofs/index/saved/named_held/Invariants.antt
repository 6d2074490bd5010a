use Rattle.std.proofs.Common.{◌≡◌, map, take}
use Rattle.oci_layout_store.specs.Entries.{entry_of}
use Rattle.oci_layout_store.specs.Saved.{named_held}
use Rattle.oci_layout_store.proofs.index.saved.named_held.Given as goal

-- as far as the loop has come
abbrev pub invariant-loop-entry : goal.invariant-loop-entry
invariant-loop-entry l = l.keys.items ≡ named_held l.graph (map entry_of (take l.entry-index l.entries))
