use Rattle.std.proofs.Common.{◌≡◌, drop, map, string_bytes}
use Rattle.serde_json.specs.View.{items_view}
use Rattle.oci_reference.specs.Platform.{platforms_after, platforms_in}
use Rattle.oci_reference.proofs.platform.platforms_in.Given as goal

-- the platforms so far, and those of what is left, are all
abbrev pub invariant-loop-element : goal.invariant-loop-element
invariant-loop-element l = platforms_after (map string_bytes l.platforms.items) (items_view (drop l.element-index l.elements)) ≡ platforms_in (items_view l.elements)
