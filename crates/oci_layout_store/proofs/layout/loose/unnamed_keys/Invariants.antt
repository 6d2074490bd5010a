use Rattle.std.proofs.Common.{take, map}
use Rattle.oci_layout_store.specs.Entries.{entry_of}
use Rattle.oci_layout_store.specs.Saved.{unnamed_keys}
use Rattle.oci_layout_store.proofs.Loose.{HasKeys}
use Rattle.oci_layout_store.proofs.layout.loose.unnamed_keys.Given as goal

abbrev pub invariant-loop-entry : goal.invariant-loop-entry
invariant-loop-entry l = HasKeys l.unnamed (unnamed_keys (map entry_of (take l.entry-index l.entries)))
