use Rattle.std.proofs.Common.{◌≡◌, take}
use Rattle.oci_layout_store.specs.Entries.{absent_in}
use Rattle.oci_layout_store.proofs.layout.open.absent_of.Given as goal

abbrev pub invariant-loop-key : goal.invariant-loop-key
invariant-loop-key l = l.absent.items ≡ absent_in l.graph (take l.key-index l.keys)
