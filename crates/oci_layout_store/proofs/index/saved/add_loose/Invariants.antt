use Rattle.std.proofs.Common.{◌≡◌, ◌++◌, map}
use Rattle.oci_layout_store.specs.Entries.{entry_of}
use Rattle.oci_layout_store.specs.Saved.{loose_entries}
use Rattle.oci_layout_store.proofs.index.saved.add_loose.Given as goal

abbrev pub invariant-loop-key : goal.invariant-loop-key
invariant-loop-key l = map entry_of l.saved.items ≡ map entry_of l.initial.saved.items ++ loose_entries l.yielded
