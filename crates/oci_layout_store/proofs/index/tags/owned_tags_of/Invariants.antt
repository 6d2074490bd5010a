use Rattle.std.proofs.Common.{◌≡◌, map, take, []}
use Rattle.oci_layout_store.specs.Entries.{entry_of, owned}
use Rattle.oci_store.specs.Tags.{AreNames}
use Rattle.oci_layout_store.proofs.index.tags.owned_tags_of.Given as goal

abbrev pub invariant-loop-entry : goal.invariant-loop-entry
invariant-loop-entry l = (l.tags ≡ owned l.graph (map entry_of (take l.entry-index l.entries)) []) × AreNames l.graph l.tags
