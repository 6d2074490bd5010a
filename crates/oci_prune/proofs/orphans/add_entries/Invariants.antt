use Rattle.std.proofs.Common.{◌≡◌, ◌++◌, map, take}
use Rattle.oci_layout_store.specs.Entries.{entry_of}
use Rattle.oci_store.specs.Tags.{by_bytes}
use Rattle.oci_prune.specs.Orphans.{named_pairs}
use Rattle.oci_prune.proofs.orphans.add_entries.Given as goal

-- as far as the loop has come
abbrev pub invariant-loop-entry : goal.invariant-loop-entry
invariant-loop-entry l = by_bytes l.named.items ≡ by_bytes l.fn.named.items ++ named_pairs (map entry_of (take l.entry-index l.entries))
