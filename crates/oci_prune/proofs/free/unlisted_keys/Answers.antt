use Rattle.std.proofs.Common.{List, sym, subst, ◌∙◌, arith}
use Rattle.std.proofs.lemmas.Bool.{true≢false}
use Rattle.std.proofs.lemmas.List.{take_all}
use Rattle.oci_manifest.specs.Descriptor.{Descriptor}
use Rattle.oci_prune.specs.Free.{AreUnlisted}
use Rattle.oci_prune.proofs.Unlisting.{unlisted_more, unlisted_same}
use Rattle.oci_prune.proofs.free.unlisted_keys.Goals as goal

pub loop-key-preserved-then-not-branch : goal.loop-key-preserved-then-not-branch
loop-key-preserved-then-not-branch g c =
    unlisted_same (g.S.Store.state c.args.source.now).nodes c.args.attachments.now c.args.keys.now c.loop-key.key-index c.key-item.result c.loop-key.found c.loop-key-test.true c.key-item.is c.loop-key.invariant
    (λ unlisted. absurd (true≢false (sym (c.in_ok-is_unlisted.ensures.1 unlisted) ∙ c.if-not-branch.true)))

pub loop-key-preserved : goal.loop-key-preserved
loop-key-preserved g c =
    unlisted_more (g.S.Store.state c.args.source.now).nodes c.args.attachments.now c.args.keys.now c.loop-key.key-index c.key-item.result c.loop-key.found c.add_member.new.members c.loop-key-test.true c.key-item.is c.loop-key.invariant
    (c.in_ok-is_unlisted.ensures.0 c.if-not-branch.false) c.in_ok-add_member.ensures

pub returns : goal.returns
returns g c =
    subst (λ (ks : List Descriptor). AreUnlisted (g.S.Store.state c.args.source.now).nodes c.args.attachments.now ks c.loop-key.found) (take_all c.loop-key.key-index c.args.keys.now (omega (arith, c.loop-key-test.false))) c.loop-key.invariant
