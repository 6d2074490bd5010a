use Rattle.std.proofs.Common.{◌≡◌, ℕ, List, not, take}
use Rattle.oci_manifest.specs.Descriptor.{Descriptor}
use Rattle.oci_store.specs.Tags.{by_bytes}
use Rattle.oci_prune.specs.Orphans.{is_orphan, orphans_in}
use Rattle.oci_prune.proofs.Parting.{left_at}
use Rattle.oci_prune.proofs.orphans.untag_each.Given as goal

-- the orphans before the place are left out, and found
abbrev pub invariant-loop-name : goal.invariant-loop-name
invariant-loop-name g l = record {
  tags : l.layout.tags ≡ left_at (λ (t : List ℕ × Descriptor). not (is_orphan l.held l.wanted t)) l.name-index l.name-items;
  gone : by_bytes l.gone.items ≡ orphans_in l.held l.wanted (by_bytes (take l.name-index l.name-items));
  graph : l.layout.graph ≡ l.fn.layout.graph;
  dir : l.layout.dir ≡ l.fn.layout.dir;
  opened : l.layout.opened ≡ l.fn.layout.opened;
}
