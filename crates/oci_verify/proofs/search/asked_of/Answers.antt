use Rattle.std.proofs.Common.{List, subst}
use Rattle.std.specs.Option.{option_copied}
use Rattle.std.proofs.lemmas.List.{take_all}
use Rattle.oci_manifest.specs.Descriptor.{Descriptor}
use Rattle.oci_verify.specs.Corrupt.{is_asked}
use Rattle.oci_verify.proofs.Corrupt.{HasAsked, HasAsked-more, HasAsked-none}
use Rattle.oci_verify.proofs.search.asked_of.Goals as goal

pub loop-key-init : goal.loop-key-init
loop-key-init c = HasAsked-none (is_asked (option_copied c.args.asked)) c.args.keys.now c.new-set.result c.new-set.ensures.empty

pub loop-key-preserved : goal.loop-key-preserved
loop-key-preserved c =
    HasAsked-more (is_asked (option_copied c.args.asked)) c.args.keys.now c.loop-key.key-index c.loop-key.set c.add_if.new.keys c.key-item.result _ c.loop-key-test.true c.key-item.is c.is_asked.ensures c.loop-key.invariant c.in_ok-add_if.ensures

pub returns : goal.returns
returns c =
    subst (λ (ks : List Descriptor). HasAsked (is_asked (option_copied c.args.asked)) ks c.loop-key.set)
    (take_all c.loop-key.key-index c.args.keys.now c.loop-key-test.false) c.loop-key.invariant
