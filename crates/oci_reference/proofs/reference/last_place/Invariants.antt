use Rattle.std.proofs.Common.{◌≡◌, map, take}
use Rattle.oci_layout_store.specs.Entries.{entry_of}
use Rattle.oci_layout_store.specs.Saved.{last_place}
use Rattle.oci_reference.proofs.reference.last_place.Given as goal

-- as far as the loop has come
abbrev pub invariant-loop-place : goal.invariant-loop-place
invariant-loop-place l = l.last ≡ last_place l.name (map entry_of (take l.place l.entries))
