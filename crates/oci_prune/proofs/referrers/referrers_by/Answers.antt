use Rattle.std.proofs.Common.{List, subst, arith}
use Rattle.std.proofs.lemmas.List.{take_all}
use Rattle.oci_manifest.specs.Descriptor.{Descriptor}
use Rattle.oci_prune.specs.Subjects.{HasPairs}
use Rattle.oci_prune.proofs.Remembered.{pairs_more}
use Rattle.oci_prune.proofs.referrers.referrers_by.Goals as goal

pub loop-pair-preserved : goal.loop-pair-preserved
loop-pair-preserved c =
    pairs_more c.args.pairs.now c.loop-pair.pair-index c.pair-item.result c.loop-pair.referrers c.add.new.referrers c.loop-pair-test.true c.pair-item.is c.loop-pair.invariant (rw c.digest.ensures at c.in_ok-add.ensures)

pub returns : goal.returns
returns c =
    subst (λ (pairs : List (Descriptor × Descriptor)). HasPairs pairs c.loop-pair.referrers) (take_all c.loop-pair.pair-index c.args.pairs.now (omega (arith, c.loop-pair-test.false))) c.loop-pair.invariant
