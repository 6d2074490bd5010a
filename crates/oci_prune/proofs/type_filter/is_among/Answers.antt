use Rattle.std.proofs.Common.{sym, ◌∙◌}
use Rattle.oci_prune.proofs.Typing.{among_texts, found_among}
use Rattle.oci_prune.proofs.type_filter.is_among.Goals as goal

pub returns : goal.returns
returns c = (λ h. among_texts c.args.texts.now c.args.text.now (sym c.contains.ensures.value ∙ h), λ h. c.contains.ensures.value ∙ found_among c.args.texts.now c.args.text.now h)
