use Rattle.std.proofs.Common.{◌≡◌, ℕ, List, Option, Some, None, sym, ap, subst, ◌∙◌}
use Rattle.std.specs.Option.{option_copied}
use Rattle.std.specs.Prelude.{OnOk}
use Rattle.std.proofs.lemmas.Option.{same_Some}
use Rattle.std.proofs.lemmas.Result.{IfOk-weaker}
use Rattle.oci_query_commands.specs.Printed.{PrintsFindings}
use Rattle.oci_query_commands.specs.Verified.{IsVerdict}
use Rattle.oci_query_commands.proofs.Below.{IfOk-other}
use Rattle.oci_query_commands.proofs.query.print_verified.Goals as goal

pub returns-in-Some-clause-whole : goal.returns-in-Some-clause-whole
returns-in-Some-clause-whole g c =
    let named : option_copied c.args.reference ≡ Some c.in-Some.name.now = ap option_copied c.in-Some.is in
    IfOk-weaker c.print_findings_below.result _ _ (λ outcome verdict none. cc (sym named ∙ none)) c.print_findings_below.ensures.outcome

pub returns-in-Some-clause-below : goal.returns-in-Some-clause-below
returns-in-Some-clause-below g c =
    let layout = c.args.layout.now in
    let named : option_copied c.args.reference ≡ Some c.in-Some.name.now = ap option_copied c.in-Some.is in
    IfOk-weaker c.print_findings_below.result _ _
    (λ outcome verdict name is has. subst (λ (n : List ℕ). IsVerdict (g.D.Dir.device layout.dir) layout.graph layout.tags layout.opened n outcome) (same_Some c.in-Some.name.now name (sym named ∙ is)) (verdict has))
    c.print_findings_below.ensures.outcome

pub returns-in-Some-clause-printed : goal.returns-in-Some-clause-printed
returns-in-Some-clause-printed g c = λ lines.
    let layout = c.args.layout.now in
    let named : option_copied c.args.reference ≡ Some c.in-Some.name.now = ap option_copied c.in-Some.is in
    subst (λ (o : Option (List ℕ)). OnOk c.print_findings_below.result (PrintsFindings (g.D.Dir.device layout.dir) layout.graph layout.tags layout.opened o c.args.lists_broken (g.W.Write.contents c.args.out.now) (g.W.Write.contents c.print_findings_below.new.out))) (sym named)
    (c.print_findings_below.ensures.printed lines)

pub returns-in-None-clause-whole : goal.returns-in-None-clause-whole
returns-in-None-clause-whole g c = IfOk-weaker c.print_whole.result _ _ (λ outcome exact none. exact) c.print_whole.ensures.outcome

pub returns-in-None-clause-below : goal.returns-in-None-clause-below
returns-in-None-clause-below g c = IfOk-other _ c.print_whole.result (option_copied c.args.reference) (ap option_copied c.in-None.is)

pub returns-in-None-clause-printed : goal.returns-in-None-clause-printed
returns-in-None-clause-printed g c = λ lines.
    let layout = c.args.layout.now in
    let none : option_copied c.args.reference ≡ None = ap option_copied c.in-None.is in
    subst (λ (o : Option (List ℕ)). OnOk c.print_whole.result (PrintsFindings (g.D.Dir.device layout.dir) layout.graph layout.tags layout.opened o c.args.lists_broken (g.W.Write.contents c.args.out.now) (g.W.Write.contents c.print_whole.new.out))) (sym none)
    (c.print_whole.ensures.printed lines)
