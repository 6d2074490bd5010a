use Rattle.std.proofs.Common.{◌≡◌, ◌++◌, drop, map}
use Rattle.oci_store.specs.Tags.{by_bytes}
use Rattle.oci_layout_store.specs.Entries.{entry_of}
use Rattle.oci_entries.specs.Brought.{tag_entries}
use Rattle.oci_entries.proofs.brought.add_tags.Given as goal

-- the entries so far, followed by those of the tags that are left
abbrev pub invariant-loop-name : goal.invariant-loop-name
invariant-loop-name l = map entry_of l.named.items ++ tag_entries (map entry_of l.last) (by_bytes (drop l.name-index l.tags)) ≡ map entry_of l.fn.named.items ++ tag_entries (map entry_of l.last) (by_bytes l.tags)
