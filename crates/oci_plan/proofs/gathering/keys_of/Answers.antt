use Rattle.std.proofs.Common.{◌≡◌, ◌+◌, List, [], ◌∷◌, ◌++◌, length, take, get_or, refl, sym, ap, subst, ◌∙◌}
use Rattle.std.proofs.lemmas.Option.{slice_get_read}
use Rattle.oci_manifest.specs.Descriptor.{Descriptor}
use Rattle.oci_plan.specs.Plan.{Number}
use Rattle.oci_plan.proofs.Names.{Number-more}
use Rattle.oci_plan.proofs.gathering.keys_of.Goals as goal

pub loop-number-preserved : goal.loop-number-preserved
loop-number-preserved c =
    let at = slice_get_read c.args.keys.now (length c.args.keys.now) (get_or c.args.numbers.now c.loop-number.number-index 0) c.index-keys-number.result refl (c.requires c.loop-number.number-index 0 c.loop-number-test.true) c.index-keys-number.is in
    let grown : c.push.new.self.items ≡ c.loop-number.named.items ++ c.index-keys-number.result ∷ [] = c.in_ok-push.ensures.items ∙ ap (λ (k : Descriptor). c.loop-number.named.items ++ k ∷ []) c.in_ok-try_clone.ensures in
    subst (λ (named : List Descriptor). Number c.args.keys.now (take (c.loop-number.number-index + 1) c.args.numbers.now) named) (sym grown)
    (Number-more c.args.keys.now c.args.numbers.now c.loop-number.named.items c.loop-number.number-index (get_or c.args.numbers.now c.loop-number.number-index 0) c.index-keys-number.result c.loop-number-test.true refl c.loop-number.invariant at)
