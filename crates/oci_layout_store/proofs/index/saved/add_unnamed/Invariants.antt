use Rattle.std.proofs.Common.{◌≡◌, ◌++◌, take, map}
use Rattle.oci_layout_store.specs.Entries.{entry_of}
use Rattle.oci_layout_store.specs.Saved.{unnamed_held}
use Rattle.oci_layout_store.proofs.index.saved.add_unnamed.Given as goal

abbrev pub invariant-loop-entry : goal.invariant-loop-entry
invariant-loop-entry l = map entry_of l.saved.items ≡ map entry_of l.initial.saved.items ++ unnamed_held l.graph (map entry_of (take l.entry-index l.entries))
