use Rattle.std.proofs.Common.{◌≡◌, ◌∙◌, sym, false, arith}
use Rattle.std.proofs.lemmas.Grind.{common_steps}
use Rattle.oci_digest.proofs.Algorithms.{algorithm_from, Decides-algorithm_from}
use Rattle.oci_digest.proofs.parse.is_algorithm.Goals as goal

pub returns-else-after_component : goal.returns-else-after_component
returns-else-after_component c =
    let e : algorithm_from false c.args.text.now ≡ false = grind (arith, common_steps) in
    let h = Decides-algorithm_from c.args.text.now in
    (λ t. cc t, λ a. sym e ∙ h.1 a)

pub returns : goal.returns
returns c =
    let e : algorithm_from false c.args.text.now ≡ c.loop-byte.after_component = grind (arith, common_steps) in
    let h = Decides-algorithm_from c.args.text.now in
    (λ t. h.0 (e ∙ t), λ a. sym e ∙ h.1 a)
