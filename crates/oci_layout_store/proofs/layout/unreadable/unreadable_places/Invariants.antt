use Rattle.std.proofs.Common.{◌≡◌, ◌++◌, map, drop}
use Rattle.oci_layout_store.specs.Entries.{entry_of, unreadable_from, unreadable_places}
use Rattle.oci_layout_store.proofs.layout.unreadable.unreadable_places.Given as goal

-- the places found so far, followed by those that are left
abbrev pub invariant-loop-place : goal.invariant-loop-place
invariant-loop-place l = l.places.items ++ unreadable_from l.place (map entry_of (drop l.place l.entries)) ≡ unreadable_places (map entry_of l.entries)
