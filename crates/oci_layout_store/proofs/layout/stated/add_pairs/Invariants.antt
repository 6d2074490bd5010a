use Rattle.std.proofs.Common.{take}
use Rattle.oci_layout_store.specs.Stated.{ArePaired}
use Rattle.oci_layout_store.proofs.layout.stated.add_pairs.Given as goal

-- as far as the loop has come
abbrev pub invariant-loop-other : goal.invariant-loop-other
invariant-loop-other l = ArePaired l.fn.pairs.items l.key (take l.other-index l.found) l.pairs.items
