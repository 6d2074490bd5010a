use Rattle.std.proofs.Common.{◌≡◌, map, take}
use Rattle.std.specs.BTreeSet.{contains}
use Rattle.oci_manifest.specs.Descriptor.{key_cmp}
use Rattle.oci_layout_store.specs.Entries.{entry_of}
use Rattle.oci_layout_store.specs.Saved.{first_from}
use Rattle.oci_layout_store.proofs.index.saved.first_entries.Given as goal

abbrev pub invariant-loop-place : goal.invariant-loop-place
invariant-loop-place l = map entry_of l.first.items ≡ first_from (contains key_cmp l.absent) l.graph l.tags (map entry_of l.entries) 0 (map entry_of (take l.place l.entries))
