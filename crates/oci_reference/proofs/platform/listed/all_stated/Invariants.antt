use Rattle.std.proofs.Common.{◌≡◌, drop}
use Rattle.serde_json.specs.View.{items_view}
use Rattle.oci_store.specs.Tags.{by_bytes}
use Rattle.oci_reference.specs.Platform.{stated_after, all_stated}
use Rattle.oci_reference.proofs.platform.listed.all_stated.Given as goal

-- the platforms so far, and those of what is left, are all
abbrev pub invariant-loop-element : goal.invariant-loop-element
invariant-loop-element l = stated_after (by_bytes l.found.items) (items_view (drop l.element-index l.elements)) ≡ all_stated (items_view l.elements)
