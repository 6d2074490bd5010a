use Rattle.std.proofs.Common.{◌≡◌, drop}
use Rattle.oci_store.specs.Tags.{by_bytes}
use Rattle.oci_selection.specs.Selected.{set_tags}
use Rattle.oci_layout_copy.proofs.between.tag_all.Given as goal

-- setting the remaining tags now has the effect of setting all at first; the keys are unchanged
abbrev pub invariant-loop-name : goal.invariant-loop-name
invariant-loop-name g l = record {
  tagged : set_tags l.destination.tags (by_bytes (drop l.name-index l.tags)) ≡ set_tags l.fn.destination.tags (by_bytes l.tags);
  graph : l.destination.graph ≡ l.fn.destination.graph;
  dir : l.destination.dir ≡ l.fn.destination.dir;
  opened : l.destination.opened ≡ l.fn.destination.opened;
}
