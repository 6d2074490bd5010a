use Rattle.std.proofs.Common.{◌≡◌, ◌∙◌, true, Some, rules, sym, ap}
use Rattle.oci_layout_store.specs.Entries.{entry_of}
use Rattle.oci_entries.proofs.BroughtEntries.{set_key}
use Rattle.oci_entries.proofs.brought.set_place.Goals as goal

pub returns : goal.returns
returns c =
    let counted : c.counts.result ≡ true = search rules in
    set_key c.args.unnamed (entry_of c.args.entry.now) c.args.place c.args.places.now c.insert.new.self c.in_ok-try_clone.field-0 (sym c.counts.ensures ∙ counted) (c.in-Some.is ∙ ap Some (sym c.in_ok-try_clone.ensures)) c.in_ok-insert.ensures.updates.0
