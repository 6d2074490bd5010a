use Rattle.std.proofs.Common.{refl}
use Rattle.oci_dir.specs.Memory.{device_of}
use Rattle.oci_copy_commands.specs.Run.{store_of}
use Rattle.oci_copy_commands.proofs.Archived.{index_names, roots_held}
use Rattle.oci_copy_commands.proofs.archive.outline_of.Goals as goal

pub holding-requires : goal.holding-requires
holding-requires g c =
    let source = store_of g.S.Dir.device c.args.source.now in
    let selected = c.args.selected.now in
    index_names device_of source selected c.in_ok-index.index c.in-Ok.graph c.in_ok-index.ensures
    (roots_held source (store_of device_of c.in_ok-empty.empty) c.options_of.result selected.0 c.in_ok-plan.plan c.in-Ok.graph c.in_ok-empty.ensures.graph
    (rw c.roots.ensures at c.in_ok-plan.ensures.plan) (rw c.keys.ensures at c.in-Ok.ensures.held))

pub returns-in-Ok : goal.returns-in-Ok
returns-in-Ok g c = record {
  empty = c.in_ok-empty.empty;
  no_keys = c.in_ok-empty.ensures.graph;
  no_tags = c.in_ok-empty.ensures.tags;
  planned = rw (c.roots.ensures, c.options_of.ensures) at c.in_ok-plan.ensures.plan;
  graph = rw c.holding.ensures (record { held = rw c.keys.ensures at c.in-Ok.ensures.held; listed = rw c.keys.ensures at c.in-Ok.ensures.listed });
  index = c.in_ok-index.index;
  entered = c.in_ok-index.ensures;
  dir = rw c.holding.ensures refl;
}
