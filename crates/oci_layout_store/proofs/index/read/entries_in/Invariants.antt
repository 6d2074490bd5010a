use Rattle.std.proofs.Common.{◌≡◌, map}
use Rattle.serde_json.specs.View.{items_view}
use Rattle.oci_layout_store.specs.Entries.{entries_in, entry_of}
use Rattle.oci_layout_store.proofs.index.read.entries_in.Given as goal

-- as far as the loop has come
abbrev pub invariant-loop-element : goal.invariant-loop-element
invariant-loop-element l = map entry_of l.entries.items ≡ entries_in (items_view l.yielded)
