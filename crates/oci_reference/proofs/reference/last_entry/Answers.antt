use Rattle.std.proofs.Common.{◌≡◌, map, Some, sym}
use Rattle.oci_layout_store.specs.Entries.{entry_of}
use Rattle.oci_layout_store.specs.Saved.{last_place}
use Rattle.oci_layout_store.proofs.LastNames.{last_entry-at, last_place-there}
use Rattle.oci_reference.proofs.reference.last_entry.Goals as goal

pub returns-in_err-entry-clause-place : goal.returns-in_err-entry-clause-place
returns-in_err-entry-clause-place c =
    let found : last_place c.args.name.now (map entry_of c.args.entries.now) ≡ Some c.in_ok-place.place = sym c.in_ok-place.ensures in
    absurd (last_place-there c.args.name.now c.args.entries.now c.in_ok-place.place found c.in_err-entry.ensures.lookup.3)

pub returns-in_err-entry-clause-entry : goal.returns-in_err-entry-clause-entry
returns-in_err-entry-clause-entry c =
    let found : last_place c.args.name.now (map entry_of c.args.entries.now) ≡ Some c.in_ok-place.place = sym c.in_ok-place.ensures in
    absurd (last_place-there c.args.name.now c.args.entries.now c.in_ok-place.place found c.in_err-entry.ensures.lookup.3)

pub returns-clause-entry : goal.returns-clause-entry
returns-clause-entry c =
    let found : last_place c.args.name.now (map entry_of c.args.entries.now) ≡ Some c.in_ok-place.place = sym c.in_ok-place.ensures in
    let lookup = c.in_ok-entry.ensures.lookup in
    last_entry-at c.args.name.now c.args.entries.now c.in_ok-place.place c.in_ok-entry.entry.now found lookup.3.0 (lookup.3.1 c.in_ok-entry.entry.now)
