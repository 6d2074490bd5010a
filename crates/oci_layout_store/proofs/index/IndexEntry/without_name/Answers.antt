use Rattle.std.proofs.Common.{None}
use Rattle.serde_json.specs.View.{view}
use Rattle.oci_layout_store.specs.Entries.{entry_of}
use Rattle.oci_layout_store.proofs.Brought.{meant_with, shallow_with}
use Rattle.oci_layout_store.proofs.index.IndexEntry.without_name.Goals as goal

pub returns-clause-shallow : goal.returns-clause-shallow
returns-clause-shallow c = λ shallow. rw c.in_ok-value_without_name.ensures (shallow_with None (view c.args.self.now.value) shallow)

pub returns-clause-meant : goal.returns-clause-meant
returns-clause-meant c = λ file meant. rw (c.in_ok-copy_of.ensures, c.in_ok-value_without_name.ensures) (meant_with file None (entry_of c.args.self.now) meant)
