use Rattle.std.proofs.Common.{◌≡◌, ◌++◌, map}
use Rattle.oci_store.specs.Tags.{by_bytes}
use Rattle.oci_layout_store.specs.Entries.{entry_of}
use Rattle.oci_layout_store.specs.Saved.{tag_entry}
use Rattle.oci_layout_store.proofs.index.saved.add_tags.Given as goal

abbrev pub invariant-loop-name : goal.invariant-loop-name
invariant-loop-name l = map entry_of l.saved.items ≡ map entry_of l.initial.saved.items ++ map (tag_entry (map entry_of l.names)) (by_bytes l.yielded)
