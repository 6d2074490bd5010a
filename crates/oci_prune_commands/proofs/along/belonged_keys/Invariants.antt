use Rattle.std.proofs.Common.{◌≡◌, map, take}
use Rattle.std.specs.Prelude.{flat_map}
use Rattle.oci_layout_store.specs.Entries.{entry_of}
use Rattle.oci_prune_commands.specs.Untagged.{belonged_of}
use Rattle.oci_prune_commands.proofs.along.belonged_keys.Given as goal

-- as far as the loop has come
abbrev pub invariant-loop-entry : goal.invariant-loop-entry
invariant-loop-entry g l = l.keys.items ≡ flat_map (belonged_of l.name l.kept l.layout.graph) (map entry_of (take l.entry-index l.entries))
