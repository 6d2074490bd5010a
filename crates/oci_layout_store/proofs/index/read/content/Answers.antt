use Rattle.std.proofs.Common.{map}
use Rattle.serde_json.specs.View.{view}
use Rattle.oci_manifest.specs.Fault.{not_json}
use Rattle.oci_manifest.specs.Reading.{reading}
use Rattle.oci_layout_store.specs.Entries.{entry_of, object_members}
use Rattle.oci_layout_store.proofs.Texts.{or_fault-Ok, shallow-parts}
use Rattle.oci_layout_store.proofs.index.read.content.Goals as goal

pub new-requires : goal.new-requires
new-requires c =
    let bytes = c.args.bytes.now in
    let value = view c.in_ok-value.value in
    shallow-parts c.args.as_is bytes value (map entry_of c.in_ok-entries.entries.items) (object_members (view c.in_ok-entries.members))
    (or_fault-Ok not_json (reading bytes) value c.in_ok-value.ensures) c.in_ok-entries.ensures.entries c.in_ok-entries.ensures.members
