use Rattle.oci_layout_store.proofs.MeantEntries.{AreMeant}
use Rattle.oci_layout_store.proofs.meant.meant_entries.Given as goal

abbrev pub invariant-loop-entry : goal.invariant-loop-entry
invariant-loop-entry g l = AreMeant (g.D.Dir.device l.dir) l.yielded l.entries.items
