use Rattle.std.proofs.Common.{◌≡◌, true, sym, ◌∙◌}
use Rattle.std.proofs.lemmas.Bool.{not-false}
use Rattle.oci_layout_store.specs.Entries.{entry_of}
use Rattle.oci_layout_store.specs.Saved.{no_name}
use Rattle.oci_layout_store.proofs.Loose.{unnamed_added}
use Rattle.oci_layout_store.proofs.layout.loose.add_unnamed.Goals as goal

pub returns : goal.returns
returns c =
    unnamed_added c.args.unnamed.now c.insert.new.self c.args.entry.now.key c.in-Some.key c.in_ok-try_clone.field-0 (no_name (entry_of c.args.entry.now).name ≡ true) c.in-Some.is c.in_ok-try_clone.ensures
    c.in_ok-insert.ensures.updates.0 (not-false (no_name (entry_of c.args.entry.now).name) (sym c.has_name.ensures ∙ c.if-has_name.false))
