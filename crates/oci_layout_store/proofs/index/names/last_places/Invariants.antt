use Rattle.std.proofs.Common.{map, take}
use Rattle.oci_layout_store.specs.Entries.{entry_of}
use Rattle.oci_layout_store.specs.Saved.{HasLastPlaces}
use Rattle.oci_layout_store.proofs.index.names.last_places.Given as goal

abbrev pub invariant-loop-place : goal.invariant-loop-place
invariant-loop-place l = HasLastPlaces l.places (map entry_of (take l.place l.entries))
