use Rattle.std.proofs.Common.{◌∙◌, List, [], map, ap}
use Rattle.oci_layout_store.specs.Entries.{entry_of, owned}
use Rattle.oci_layout_store.specs.declared.index.IndexEntry.{IndexEntry as CodeEntry}
use Rattle.oci_layout_store.proofs.layout.open.parts_as_is.Goals as goal

pub returns-clause-opened : goal.returns-clause-opened
returns-clause-opened g c = λ honest.
    rw c.new.ensures (record {
      read = c.in_ok-held.ensures.read honest;
      tagged = c.in_ok-tags.ensures.tags ∙ ap (λ (es : List CodeEntry). owned c.in_ok-held.held.graph (map entry_of es) []) c.entries.ensures.entries;
    })
