use Rattle.std.proofs.Common.{◌≡◌, map}
use Rattle.serde_json.specs.View.{view}
use Rattle.oci_layout_store.specs.Entries.{IndexEntry, entry_of}
use Rattle.oci_layout_store.proofs.index.write.values_of.Given as goal

abbrev pub invariant-loop-entry : goal.invariant-loop-entry
invariant-loop-entry l = map view l.values.items ≡ map (λ (e : IndexEntry). e.value) (map entry_of l.yielded)
