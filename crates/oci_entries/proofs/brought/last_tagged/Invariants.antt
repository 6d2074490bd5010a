use Rattle.std.proofs.Common.{◌≡◌, map, take}
use Rattle.oci_layout_store.specs.Entries.{entry_of}
use Rattle.oci_entries.specs.Brought.{is_tagged, last_such}
use Rattle.oci_entries.proofs.brought.last_tagged.Given as goal

-- as far as the loop has come
abbrev pub invariant-loop-place : goal.invariant-loop-place
invariant-loop-place l = l.last ≡ last_such (is_tagged l.name l.key) (map entry_of (take l.place l.entries))
