use Rattle.std.proofs.Common.{◌≡◌, ◌++◌, drop, map}
use Rattle.std.specs.List.{flat_map}
use Rattle.oci_layout_store.specs.Entries.{entry_of}
use Rattle.oci_entries.specs.Brought.{root_entry}
use Rattle.oci_entries.proofs.brought.root_entries.Given as goal

-- the entries found so far, followed by those that are left
abbrev pub invariant-loop-root : goal.invariant-loop-root
invariant-loop-root l = map entry_of l.found.items ++ flat_map (root_entry (map entry_of l.last) (map entry_of l.named)) (drop l.root-index l.roots) ≡ flat_map (root_entry (map entry_of l.last) (map entry_of l.named)) l.roots
