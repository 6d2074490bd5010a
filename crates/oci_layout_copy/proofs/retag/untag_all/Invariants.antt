use Rattle.std.proofs.Common.{◌≡◌, drop}
use Rattle.oci_store.specs.Tags.{by_bytes}
use Rattle.oci_selection.specs.Selected.{without_tags}
use Rattle.oci_layout_copy.proofs.Retagged.{AreTagged}
use Rattle.oci_layout_copy.proofs.retag.untag_all.Given as goal

-- removing the remaining tags now has the effect of removing all at first
abbrev pub invariant-loop-name : goal.invariant-loop-name
invariant-loop-name g l = record {
  untagged : without_tags l.layout.tags (by_bytes (drop l.name-index l.tags)) ≡ without_tags l.fn.layout.tags (by_bytes l.tags);
  graph : l.layout.graph ≡ l.fn.layout.graph;
  dir : l.layout.dir ≡ l.fn.layout.dir;
  there : AreTagged l.layout.tags (by_bytes (drop l.name-index l.tags));
  opened : l.layout.opened ≡ l.fn.layout.opened;
}
