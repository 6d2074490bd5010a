use Rattle.std.proofs.Common.{◌≡◌, ℕ, List}
use Rattle.std.specs.BTreeSet.{contains}
use Rattle.oci_manifest.specs.Descriptor.{Descriptor, key_cmp}
use Rattle.oci_prune.proofs.Parting.{left_at}
use Rattle.oci_prune.proofs.untagged.untag_others.Given as goal

-- the tags before the place are left out whose keys are not kept
abbrev pub invariant-loop-name : goal.invariant-loop-name
invariant-loop-name g l = record {
  tags : l.layout.tags ≡ left_at (λ (t : List ℕ × Descriptor). contains key_cmp l.kept t.1) l.name-index l.name-items;
  graph : l.layout.graph ≡ l.fn.layout.graph;
  dir : l.layout.dir ≡ l.fn.layout.dir;
  opened : l.layout.opened ≡ l.fn.layout.opened;
}
