use Rattle.std.proofs.Common.{List, subst, arith}
use Rattle.std.proofs.lemmas.List.{take_all}
use Rattle.oci_manifest.specs.Descriptor.{Descriptor}
use Rattle.oci_layout_store.specs.Stated.{ArePaired}
use Rattle.oci_layout_store.proofs.Stated.{paired_next, paired_none}
use Rattle.oci_layout_store.proofs.layout.stated.add_pairs.Goals as goal

pub loop-other-init : goal.loop-other-init
loop-other-init c = paired_none c.args.pairs.now.items c.args.key.now

pub loop-other-preserved : goal.loop-other-preserved
loop-other-preserved c =
    paired_next c.args.pairs.now.items c.loop-other.pairs.items c.add_pair.new.pairs.items c.args.key.now c.other-item.result c.args.found.now c.loop-other.other-index c.loop-other-test.true c.other-item.is
    (rw c.in_ok-try_clone.ensures at c.in_ok-add_pair.ensures) c.loop-other.invariant

pub returns : goal.returns
returns c =
    subst (λ (found : List Descriptor). ArePaired c.args.pairs.now.items c.args.key.now found c.loop-other.pairs.items) (take_all c.loop-other.other-index c.args.found.now (omega (arith, c.loop-other-test.false))) c.loop-other.invariant
