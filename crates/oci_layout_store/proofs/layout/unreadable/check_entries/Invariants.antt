use Rattle.std.proofs.Common.{◌≡◌, map, drop}
use Rattle.oci_layout_store.specs.Entries.{entry_of, unreadable_from, unreadable_places}
use Rattle.oci_layout_store.proofs.layout.unreadable.check_entries.Given as goal

-- all places are those that are left
abbrev pub invariant-loop-place : goal.invariant-loop-place
invariant-loop-place l = unreadable_from l.place (map entry_of (drop l.place l.entries)) ≡ unreadable_places (map entry_of l.entries)
