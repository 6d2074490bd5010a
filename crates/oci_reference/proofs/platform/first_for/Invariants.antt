use Rattle.std.proofs.Common.{◌≡◌, drop}
use Rattle.serde_json.specs.View.{items_view}
use Rattle.oci_reference.specs.Platform.{first_for}
use Rattle.oci_reference.proofs.platform.first_for.Given as goal

-- the first one in what is left is the first one in all
abbrev pub invariant-loop-element : goal.invariant-loop-element
invariant-loop-element l = first_for l.platform (items_view (drop l.element-index l.elements)) ≡ first_for l.platform (items_view l.elements)
