use Rattle.std.proofs.Common.{List, ℕ, Bor, map, sym, ap, subst, ◌∙◌}
use Rattle.std.specs.Prelude.{OnOk}
use Rattle.std.proofs.lemmas.Result.{on_ok_weaker, IfOk-weaker}
use Rattle.oci_command_line.specs.declared.request.Query.{Query}
use Rattle.oci_layout_store.specs.Meaning.{meaning}
use Rattle.oci_query_commands.specs.Lines.{key_lines}
use Rattle.oci_query_commands.specs.Listed.{ArePredecessorsOf}
use Rattle.oci_query_commands.specs.Printed.{Prints, PrintsAnswer}
use Rattle.oci_query_commands.specs.Verified.{is_verify, verified_reference}
use Rattle.oci_query_commands.specs.Written.{is_cat}
use Rattle.oci_query_commands.proofs.Below.{no_reference, IfOk-other}
use Rattle.oci_query_commands.proofs.Written.{OnOk-other}
use Rattle.oci_query_commands.proofs.query.answer_from.Goals as goal

pub returns-in-Predecessors-clause-printed : goal.returns-in-Predecessors-clause-printed
returns-in-Predecessors-clause-printed g c = λ lines.
    let layout = c.args.layout.now in
    let dir = g.D.Dir.device layout.dir in
    let old = g.W.Write.contents c.args.out.now in
    let new = g.W.Write.contents c.print_predecessors.new.out in
    let reference = c.in-Predecessors.reference.now in
    subst (λ (q : Query). OnOk c.print_predecessors.result (PrintsAnswer dir layout.graph layout.tags layout.opened q old new)) (sym c.in-Predecessors.is)
    (subst (λ (types : List (Bor (List ℕ))). OnOk c.print_predecessors.result (Prints (ArePredecessorsOf (meaning dir layout.graph layout.tags) reference (map (λ (t : Bor (List ℕ)). t.now) types)) key_lines old new)) c.deref.ensures.value
    (c.print_predecessors.ensures.printed lines))

pub returns-in-Cat-clause-printed : goal.returns-in-Cat-clause-printed
returns-in-Cat-clause-printed g c = λ lines.
    let layout = c.args.layout.now in
    subst (λ (q : Query). OnOk c.print_blob.result (PrintsAnswer (g.D.Dir.device layout.dir) layout.graph layout.tags layout.opened q (g.W.Write.contents c.args.out.now) (g.W.Write.contents c.print_blob.new.out))) (sym c.in-Cat.is)
    c.print_blob.ensures.written

pub returns-in-Cat-clause-written : goal.returns-in-Cat-clause-written
returns-in-Cat-clause-written g c =
    let layout = c.args.layout.now in
    on_ok_weaker c.print_blob.result (λ wrote is. wrote)
    (subst (λ (q : Query). OnOk c.print_blob.result (PrintsAnswer (g.D.Dir.device layout.dir) layout.graph layout.tags layout.opened q (g.W.Write.contents c.args.out.now) (g.W.Write.contents c.print_blob.new.out))) (sym c.in-Cat.is)
    c.print_blob.ensures.written)

-- another command is not `cat`
pub returns-in-Tags-clause-written : goal.returns-in-Tags-clause-written
returns-in-Tags-clause-written g c = OnOk-other _ c.print_tags.result (is_cat c.args.query.now) (ap is_cat c.in-Tags.is)

pub returns-in-Resolve-clause-written : goal.returns-in-Resolve-clause-written
returns-in-Resolve-clause-written g c = OnOk-other _ c.print_resolved.result (is_cat c.args.query.now) (ap is_cat c.in-Resolve.is)

pub returns-in-Predecessors-clause-written : goal.returns-in-Predecessors-clause-written
returns-in-Predecessors-clause-written g c = OnOk-other _ c.print_predecessors.result (is_cat c.args.query.now) (ap is_cat c.in-Predecessors.is)

pub returns-in_ok-root-in-Tree-clause-written : goal.returns-in_ok-root-in-Tree-clause-written
returns-in_ok-root-in-Tree-clause-written g c = OnOk-other _ c.print_tree.result (is_cat c.args.query.now) (ap is_cat c.in-Tree.is)

pub returns-in-Verify-clause-written : goal.returns-in-Verify-clause-written
returns-in-Verify-clause-written g c = OnOk-other _ c.print_verified.result (is_cat c.args.query.now) (ap is_cat c.in-Verify.is)

-- a `verify` of a whole layout, or of what a reference reaches
pub returns-in-Verify-clause-verified : goal.returns-in-Verify-clause-verified
returns-in-Verify-clause-verified g c =
    IfOk-weaker c.print_verified.result _ _ (λ outcome whole is. whole (no_reference _ _ _ _ _ c.in-Verify.is is)) c.print_verified.ensures.whole

pub returns-in-Verify-clause-below : goal.returns-in-Verify-clause-below
returns-in-Verify-clause-below g c =
    IfOk-weaker c.print_verified.result _ _ (λ outcome below reference is. below reference (sym (ap verified_reference c.in-Verify.is) ∙ is)) c.print_verified.ensures.below

pub returns-in-Verify-clause-printed : goal.returns-in-Verify-clause-printed
returns-in-Verify-clause-printed g c = λ lines.
    let layout = c.args.layout.now in
    subst (λ (q : Query). OnOk c.print_verified.result (PrintsAnswer (g.D.Dir.device layout.dir) layout.graph layout.tags layout.opened q (g.W.Write.contents c.args.out.now) (g.W.Write.contents c.print_verified.new.out))) (sym c.in-Verify.is)
    (c.print_verified.ensures.printed lines)

-- another command has no reference that is checked
pub returns-in-Tags-clause-below : goal.returns-in-Tags-clause-below
returns-in-Tags-clause-below g c = IfOk-other _ c.print_tags.result (verified_reference c.args.query.now) (ap verified_reference c.in-Tags.is)

pub returns-in-Resolve-clause-below : goal.returns-in-Resolve-clause-below
returns-in-Resolve-clause-below g c = IfOk-other _ c.print_resolved.result (verified_reference c.args.query.now) (ap verified_reference c.in-Resolve.is)

pub returns-in-Predecessors-clause-below : goal.returns-in-Predecessors-clause-below
returns-in-Predecessors-clause-below g c = IfOk-other _ c.print_predecessors.result (verified_reference c.args.query.now) (ap verified_reference c.in-Predecessors.is)

pub returns-in_ok-root-in-Tree-clause-below : goal.returns-in_ok-root-in-Tree-clause-below
returns-in_ok-root-in-Tree-clause-below g c = IfOk-other _ c.print_tree.result (verified_reference c.args.query.now) (ap verified_reference c.in-Tree.is)

pub returns-in-Cat-clause-below : goal.returns-in-Cat-clause-below
returns-in-Cat-clause-below g c = IfOk-other _ c.print_blob.result (verified_reference c.args.query.now) (ap verified_reference c.in-Cat.is)
