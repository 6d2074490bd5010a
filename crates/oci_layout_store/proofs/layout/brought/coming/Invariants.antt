use Rattle.std.proofs.Common.{◌≡◌, ◌++◌, filter, map, drop}
use Rattle.std.specs.BTreeSet.{contains}
use Rattle.oci_manifest.specs.Descriptor.{key_cmp}
use Rattle.oci_layout_store.specs.Brought.{comes, stating}
use Rattle.oci_layout_store.specs.Entries.{entry_of}
use Rattle.oci_layout_store.proofs.layout.brought.coming.Given as goal

-- the entries found so far, followed by those that are left
abbrev pub invariant-loop-entry : goal.invariant-loop-entry
invariant-loop-entry l = map entry_of l.more.items ++ map stating (filter (comes (contains key_cmp l.tagged) (contains key_cmp l.unnamed)) (map entry_of (drop l.entry-index l.entries))) ≡ map stating (filter (comes (contains key_cmp l.tagged) (contains key_cmp l.unnamed)) (map entry_of l.entries))
