use Rattle.std.proofs.Common.{List, [], sym, subst, arith}
use Rattle.std.proofs.lemmas.List.{take_all}
use Rattle.oci_manifest.specs.Descriptor.{Descriptor}
use Rattle.oci_prune.specs.Files.{AreNeeded}
use Rattle.oci_prune.proofs.Filing.{needed_more, needed_none}
use Rattle.oci_prune.proofs.files.needed_keys.Goals as goal

pub loop-key-init : goal.loop-key-init
loop-key-init g c = λ honest.
    let store = g.S.Store.state c.args.source.now in
    subst (λ (ks : List Descriptor). AreNeeded store.nodes store.entries [] ks) (sym c.new-needed.ensures.items) (needed_none store.nodes store.entries)

pub loop-key-preserved : goal.loop-key-preserved
loop-key-preserved g c = λ honest.
    let store = g.S.Store.state c.args.source.now in
    needed_more store.nodes store.entries c.args.keys.now c.loop-key.key-index c.key-item.result c.loop-key.needed.items c.add_needed.new.needed.items c.loop-key-test.true c.key-item.is (c.loop-key.invariant honest) (c.in_ok-add_needed.ensures.exact honest)

pub returns-clause-exact : goal.returns-clause-exact
returns-clause-exact g c = λ honest.
    let store = g.S.Store.state c.args.source.now in
    subst (λ (ks : List Descriptor). AreNeeded store.nodes store.entries ks c.loop-key.needed.items) (take_all c.loop-key.key-index c.args.keys.now (omega (arith, c.loop-key-test.false))) (c.loop-key.invariant honest)
