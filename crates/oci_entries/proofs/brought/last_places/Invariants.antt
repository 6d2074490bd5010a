use Rattle.std.proofs.Common.{map, take}
use Rattle.oci_layout_store.specs.Entries.{entry_of}
use Rattle.oci_entries.specs.Brought.{HasLastPlaces}
use Rattle.oci_entries.proofs.brought.last_places.Given as goal

abbrev pub invariant-loop-place : goal.invariant-loop-place
invariant-loop-place l = HasLastPlaces l.unnamed l.places (map entry_of (take l.place l.entries))
