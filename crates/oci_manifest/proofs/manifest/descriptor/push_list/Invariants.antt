use Rattle.std.proofs.Common.{◌≡◌, drop}
use Rattle.serde_json.specs.View.{items_view}
use Rattle.oci_manifest.specs.Reading.{descriptors_from, prepend}
use Rattle.oci_manifest.proofs.manifest.descriptor.push_list.Given as goal

-- the keys so far and those of what is left are those of all
abbrev pub invariant-loop-position : goal.invariant-loop-position
invariant-loop-position l =
    prepend l.found.items (descriptors_from l.name l.position (items_view (drop l.position l.list)))
    ≡ prepend l.initial.found.items (descriptors_from l.name 0 (items_view l.list))
