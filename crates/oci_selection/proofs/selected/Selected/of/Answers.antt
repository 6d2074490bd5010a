use Rattle.std.proofs.Common.{sym, subst}
use Rattle.std.proofs.lemmas.Result.{IfOk-weaker}
use Rattle.std.specs.Option.{option_copied}
use Rattle.std.specs.Prelude.{IfOk}
use Rattle.oci_command_line.specs.declared.changing.Selection.{Selection}
use Rattle.oci_entries.specs.Pattern.{texts_of}
use Rattle.oci_selection.specs.Selected.{Selects, SelectsAllTags, SelectsBy, SelectsNamed}
use Rattle.oci_selection.proofs.selected.Selected.of.Goals as goal

pub returns-in-Reference-clause-selects : goal.returns-in-Reference-clause-selects
returns-in-Reference-clause-selects g c =
    let device = g.D.Dir.device in
    let source = c.args.source.now in
    let words = c.in-Reference in
    let referrers = c.referrers_of-referrers in
    IfOk-weaker c.named.result (SelectsNamed device source words.from.now words.to.now (option_copied words.platform) referrers.result) (Selects device source c.args.words.now)
    (λ s selects. (referrers.result, referrers.ensures, subst (λ (it : Selection). SelectsBy device source c.args.words.now.brings_untagged referrers.result it s) (sym words.is) selects)) c.named.ensures

pub returns-in-AllTags-clause-selects : goal.returns-in-AllTags-clause-selects
returns-in-AllTags-clause-selects g c =
    let device = g.D.Dir.device in
    let source = c.args.source.now in
    let referrers = c.referrers_of-referrers in
    let patterns = texts_of c.in-AllTags.patterns.items in
    let found : IfOk c.all_tags.result (SelectsAllTags device source patterns c.args.words.now.brings_untagged referrers.result) = rw c.deref.ensures.value at c.all_tags.ensures.selects in
    IfOk-weaker c.all_tags.result (SelectsAllTags device source patterns c.args.words.now.brings_untagged referrers.result) (Selects device source c.args.words.now)
    (λ s selects. (referrers.result, referrers.ensures, subst (λ (it : Selection). SelectsBy device source c.args.words.now.brings_untagged referrers.result it s) (sym c.in-AllTags.is) selects)) found
