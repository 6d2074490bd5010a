use Rattle.std.proofs.Common.{Bool, sym, subst}
use Rattle.std.specs.Prelude.{OnOk}
use Rattle.oci_query_commands.specs.Printed.{PrintsWhole}
use Rattle.oci_query_commands.proofs.query.print_whole.Goals as goal

pub returns-then-lists_broken-clause-printed : goal.returns-then-lists_broken-clause-printed
returns-then-lists_broken-clause-printed g c = λ lines.
    let layout = c.args.layout.now in
    subst (λ (lists : Bool). OnOk c.print_by_tag.result (PrintsWhole (g.D.Dir.device layout.dir) layout.graph layout.opened lists (g.W.Write.contents c.args.out.now) (g.W.Write.contents c.print_by_tag.new.out))) (sym c.if-lists_broken.true)
    (c.print_by_tag.ensures.printed lines)

pub returns-else-lists_broken-clause-printed : goal.returns-else-lists_broken-clause-printed
returns-else-lists_broken-clause-printed g c = λ lines.
    let layout = c.args.layout.now in
    subst (λ (lists : Bool). OnOk c.print_findings.result (PrintsWhole (g.D.Dir.device layout.dir) layout.graph layout.opened lists (g.W.Write.contents c.args.out.now) (g.W.Write.contents c.print_findings.new.out))) (sym c.if-lists_broken.false)
    (c.print_findings.ensures.printed lines)
