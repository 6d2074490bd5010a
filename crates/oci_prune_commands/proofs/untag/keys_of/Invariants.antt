use Rattle.std.proofs.Common.{◌≡◌, map, take}
use Rattle.oci_layout_store.specs.Entries.{IndexEntry, entry_of}
use Rattle.oci_prune_commands.proofs.untag.keys_of.Given as goal

-- as far as the loop has come
abbrev pub invariant-loop-entry : goal.invariant-loop-entry
invariant-loop-entry l = l.keys.items ≡ map (λ (e : IndexEntry). e.key) (map entry_of (take l.entry-index l.entries))
