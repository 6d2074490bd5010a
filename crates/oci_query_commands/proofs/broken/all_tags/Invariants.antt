use Rattle.std.proofs.Common.{take, map}
use Rattle.oci_layout_store.specs.Entries.{entry_of}
use Rattle.oci_query_commands.proofs.BrokenTags.{HasTags}
use Rattle.oci_query_commands.proofs.broken.all_tags.Given as goal

-- as far as the loop has come
abbrev pub invariant-loop-entry : goal.invariant-loop-entry
invariant-loop-entry l = HasTags (map entry_of l.entries) (map entry_of (take l.entry-index l.entries)) l.tags
