use Rattle.std.proofs.Common.{◌+◌, Bool, cond, List, Some, take, Option, sym, ap, subst, ◌∙◌}
use Rattle.std.specs.Option.{option_copied}
use Rattle.std.proofs.lemmas.List.{take_all}
use Rattle.oci_manifest.specs.Descriptor.{Descriptor}
use Rattle.oci_store.specs.Tags.{IsLeastOf}
use Rattle.oci_reference.proofs.Named.{least-next, none_of}
use Rattle.oci_reference.proofs.reference.least_with.Goals as goal
use Rattle.oci_reference.proofs.reference.least_with.Goals.{then-comes_first, else-comes_first}

pub loop-key-init : goal.loop-key-init
loop-key-init c = none_of c.args.keys.now c.args.digest.now

pub loop-key-preserved : goal.loop-key-preserved
loop-key-preserved c =
    let keys = c.args.keys.now in
    let digest = c.args.digest.now in
    let place = c.loop-key.key-index in
    let k = c.key-item.result in
    let least = option_copied c.loop-key.least in
    let next = least-next keys digest least place k c.loop-key-test.true c.key-item.is c.loop-key.invariant in
    elim c.if-comes_first.branch [
      | then-comes_first w ↦ subst (λ (o : Option Descriptor). IsLeastOf (take (place + 1) keys) digest o)
          (ap (λ (b : Bool). cond b (Some k) least) (sym c.comes_first.ensures ∙ w.if-comes_first.true) ∙ sym (ap option_copied w.least-is)) next
      | else-comes_first w ↦ subst (λ (o : Option Descriptor). IsLeastOf (take (place + 1) keys) digest o)
          (ap (λ (b : Bool). cond b (Some k) least) (sym c.comes_first.ensures ∙ w.if-comes_first.false) ∙ sym (ap option_copied w.least-is)) next
    ]

pub returns : goal.returns
returns c =
    subst (λ (keys : List Descriptor). IsLeastOf keys c.args.digest.now (option_copied c.loop-key.least))
    (take_all c.loop-key.key-index c.args.keys.now c.loop-key-test.false) c.loop-key.invariant
