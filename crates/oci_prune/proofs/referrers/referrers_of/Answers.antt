use Rattle.std.proofs.Common.{List, subst, arith}
use Rattle.std.proofs.lemmas.List.{take_all}
use Rattle.oci_manifest.specs.Descriptor.{Descriptor}
use Rattle.oci_prune.specs.Subjects.{AreReferrers}
use Rattle.oci_prune.specs.Typed.{StatesBy}
use Rattle.oci_prune.proofs.Stating.{referrers_more}
use Rattle.oci_prune.proofs.referrers.referrers_of.Goals as goal

pub loop-key-preserved : goal.loop-key-preserved
loop-key-preserved g c = λ honest.
    referrers_more (StatesBy (g.S.Store.state c.args.source.now).entries c.args.filter.now) c.args.keys.now c.loop-key.key-index c.key-item.result c.in_ok-found.found c.loop-key.referrers c.add_referrer.new.referrers c.loop-key-test.true c.key-item.is (c.loop-key.invariant honest)
    (c.in_ok-found.ensures.exact honest) c.in_ok-add_referrer.ensures

pub returns-clause-exact : goal.returns-clause-exact
returns-clause-exact g c = λ honest.
    subst (λ (ks : List Descriptor). AreReferrers (StatesBy (g.S.Store.state c.args.source.now).entries c.args.filter.now) ks c.loop-key.referrers) (take_all c.loop-key.key-index c.args.keys.now (omega (arith, c.loop-key-test.false)))
    (c.loop-key.invariant honest)
