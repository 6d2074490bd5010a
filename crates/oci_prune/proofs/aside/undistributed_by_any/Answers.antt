use Rattle.std.proofs.Common.{List, [], sym, subst, arith}
use Rattle.std.proofs.lemmas.List.{take_all}
use Rattle.oci_manifest.specs.Descriptor.{Descriptor}
use Rattle.oci_prune.specs.Aside.{AreListedAside}
use Rattle.oci_prune.proofs.Passing.{aside_of_more, aside_of_none}
use Rattle.oci_prune.proofs.aside.undistributed_by_any.Goals as goal

pub loop-key-init : goal.loop-key-init
loop-key-init g c = λ honest.
    let entries = (g.S.Store.state c.args.source.now).entries in
    subst (λ (ks : List Descriptor). AreListedAside entries [] ks) (sym c.new-listed.ensures.items) (aside_of_none entries)

pub loop-key-preserved : goal.loop-key-preserved
loop-key-preserved g c = λ honest.
    let entries = (g.S.Store.state c.args.source.now).entries in
    aside_of_more entries c.args.keys.now c.loop-key.key-index c.key-item.result c.loop-key.listed.items c.add_all.new.needed.items c.in_ok-aside.aside.items c.loop-key-test.true c.key-item.is (c.loop-key.invariant honest) c.in_ok-add_all.ensures
    (c.in_ok-aside.ensures.exact honest)

pub returns-clause-exact : goal.returns-clause-exact
returns-clause-exact g c = λ honest.
    let entries = (g.S.Store.state c.args.source.now).entries in
    subst (λ (ks : List Descriptor). AreListedAside entries ks c.loop-key.listed.items) (take_all c.loop-key.key-index c.args.keys.now (omega (arith, c.loop-key-test.false))) (c.loop-key.invariant honest)
