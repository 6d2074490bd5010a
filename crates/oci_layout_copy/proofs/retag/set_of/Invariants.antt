use Rattle.std.proofs.Common.{◌≡◌, [], drop}
use Rattle.oci_store.specs.Tags.{by_bytes}
use Rattle.oci_selection.specs.Selected.{set_tags}
use Rattle.oci_layout_copy.proofs.retag.set_of.Given as goal

-- setting the remaining tags now has the effect of setting all at first
abbrev pub invariant-loop-name : goal.invariant-loop-name
invariant-loop-name l = set_tags l.set (by_bytes (drop l.name-index l.tags)) ≡ set_tags [] (by_bytes l.tags)
