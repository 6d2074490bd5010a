use Rattle.std.proofs.Common.{◌≡◌, ℕ, List, true, cond, subst, arith}
use Rattle.std.specs.BTreeSet.{contains}
use Rattle.std.specs.Cmp.Lexicographic.{slice_cmp}
use Rattle.std.specs.Ordering.{nat_cmp, is_eq}
use Rattle.std.proofs.lemmas.List.{take_all}
use Rattle.oci_manifest.specs.Descriptor.{Descriptor}
use Rattle.oci_prune.specs.Files.{HasDigests}
use Rattle.oci_prune.proofs.Filing.{digests_more}
use Rattle.oci_prune.proofs.files.digests_of.Goals as goal

pub loop-key-preserved : goal.loop-key-preserved
loop-key-preserved c =
    digests_more c.args.keys.now c.loop-key.key-index c.key-item.result c.loop-key.digests c.insert.new.self c.loop-key-test.true c.key-item.is c.loop-key.invariant
    (subst (λ (d : List ℕ). (other : List ℕ) → contains (slice_cmp nat_cmp) c.insert.new.self other ≡ cond (is_eq (slice_cmp nat_cmp d other)) true (contains (slice_cmp nat_cmp) c.loop-key.digests other)) c.digest.ensures
    c.in_ok-insert.ensures.updates.0)

pub returns : goal.returns
returns c =
    subst (λ (ks : List Descriptor). HasDigests ks c.loop-key.digests) (take_all c.loop-key.key-index c.args.keys.now (omega (arith, c.loop-key-test.false))) c.loop-key.invariant
