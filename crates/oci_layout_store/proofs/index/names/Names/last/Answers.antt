use Rattle.std.proofs.Common.{◌≡◌, List, map, Some, string_bytes, sym, ap, ◌∙◌}
use Rattle.oci_layout_store.specs.Entries.{entry_of}
use Rattle.oci_layout_store.specs.Saved.{last_entry, last_place}
use Rattle.oci_layout_store.specs.declared.index.IndexEntry.{IndexEntry}
use Rattle.oci_layout_store.proofs.LastNames.{last_entry-at, last_place-there}
use Rattle.oci_layout_store.proofs.index.names.Names.last.Goals as goal

pub returns-in_err-entry-clause-place : goal.returns-in_err-entry-clause-place
returns-in_err-entry-clause-place c =
    let entries = c.self.inside.entries.now in
    let name = c.args.name.now in
    let found : last_place (string_bytes name) (map entry_of entries) ≡ Some c.in_ok-place.field-0.now = sym (c.self.invariant name) ∙ sym c.in_ok-place.ensures.value in
    absurd (last_place-there (string_bytes name) entries c.in_ok-place.field-0.now found c.in_err-entry.ensures.lookup.3)

pub returns-in_err-entry-clause-entry : goal.returns-in_err-entry-clause-entry
returns-in_err-entry-clause-entry c =
    let entries = c.self.inside.entries.now in
    let name = c.args.name.now in
    let found : last_place (string_bytes name) (map entry_of entries) ≡ Some c.in_ok-place.field-0.now = sym (c.self.invariant name) ∙ sym c.in_ok-place.ensures.value in
    absurd (last_place-there (string_bytes name) entries c.in_ok-place.field-0.now found c.in_err-entry.ensures.lookup.3)

pub returns-clause-entry : goal.returns-clause-entry
returns-clause-entry c =
    let entries = c.self.inside.entries.now in
    let name = c.args.name.now in
    let found : last_place (string_bytes name) (map entry_of entries) ≡ Some c.in_ok-place.field-0.now = sym (c.self.invariant name) ∙ sym c.in_ok-place.ensures.value in
    let lookup = c.in_ok-entry.ensures.lookup in
    last_entry-at (string_bytes name) entries c.in_ok-place.field-0.now c.in_ok-entry.entry.now found lookup.3.0 (lookup.3.1 c.in_ok-entry.entry.now)
    ∙ ap (λ (es : List IndexEntry). last_entry (string_bytes name) (map entry_of es)) c.self.view_is
