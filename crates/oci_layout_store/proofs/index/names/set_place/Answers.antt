use Rattle.std.proofs.Common.{Some, sym, ap, ◌∙◌}
use Rattle.oci_layout_store.specs.Entries.{text_of}
use Rattle.oci_layout_store.proofs.LastNames.{set_name}
use Rattle.oci_layout_store.proofs.index.names.set_place.Goals as goal

pub returns : goal.returns
returns c =
    set_name c.args.places.now c.insert.new.self c.in_ok-clone.field-0 c.args.name.now c.args.place c.in_ok-insert.ensures.updates
    (ap text_of c.in-Some.is ∙ ap Some (sym c.in_ok-clone.ensures.cases))
