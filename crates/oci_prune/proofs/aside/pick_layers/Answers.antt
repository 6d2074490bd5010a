use Rattle.std.proofs.Common.{List, [], subst, sym, arith, ◌∙◌}
use Rattle.std.proofs.lemmas.List.{take_all}
use Rattle.std.specs.Option.{option_copied}
use Rattle.oci_manifest.specs.Descriptor.{Descriptor}
use Rattle.oci_prune.specs.Aside.{is_one_of, ArePicked}
use Rattle.oci_prune.proofs.Passing.{picked_less, picked_more, picked_none}
use Rattle.oci_prune.proofs.aside.pick_layers.Goals as goal

pub loop-pair-init : goal.loop-pair-init
loop-pair-init c = subst (λ (ks : List Descriptor). ArePicked (is_one_of (option_copied c.args.among)) [] ks) (sym c.new-layers.ensures.items) (picked_none (is_one_of (option_copied c.args.among)))

pub loop-pair-preserved : goal.loop-pair-preserved
loop-pair-preserved c =
    picked_more (is_one_of (option_copied c.args.among)) c.args.pairs.now c.loop-pair.pair-index c.pair-item.result c.loop-pair.layers.items c.push.new.self.items c.loop-pair-test.true c.pair-item.is
    (sym c.is_one_of.ensures ∙ c.if-not-is_one_of.false) (rw c.in_ok-try_clone.ensures at c.in_ok-push.ensures.items) c.loop-pair.invariant

pub loop-pair-preserved-then-not-is_one_of : goal.loop-pair-preserved-then-not-is_one_of
loop-pair-preserved-then-not-is_one_of c =
    picked_less (is_one_of (option_copied c.args.among)) c.args.pairs.now c.loop-pair.pair-index c.pair-item.result c.loop-pair.layers.items c.loop-pair-test.true c.pair-item.is
    (sym c.is_one_of.ensures ∙ c.if-not-is_one_of.true) c.loop-pair.invariant

pub returns : goal.returns
returns c =
    subst (λ (pairs : List (Descriptor × Descriptor)). ArePicked (is_one_of (option_copied c.args.among)) pairs c.loop-pair.layers.items) (take_all c.loop-pair.pair-index c.args.pairs.now (omega (arith, c.loop-pair-test.false))) c.loop-pair.invariant
