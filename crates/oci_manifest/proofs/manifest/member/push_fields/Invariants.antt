use Rattle.std.proofs.Common.{◌≡◌, drop, map}
use Rattle.serde_json.specs.View.{view}
use Rattle.oci_manifest.specs.Reading.{all_keys, field_of, prepend}
use Rattle.oci_manifest.proofs.manifest.member.push_fields.Given as goal

-- the keys so far and those of what is left are those of all
abbrev pub invariant-loop-field : goal.invariant-loop-field
invariant-loop-field l =
    prepend l.found.items (all_keys (view l.manifest) (map field_of (drop l.field-index l.fields)))
    ≡ prepend l.initial.found.items (all_keys (view l.manifest) (map field_of l.fields))
