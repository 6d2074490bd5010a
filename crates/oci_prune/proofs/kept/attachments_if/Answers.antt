use Rattle.std.proofs.Common.{Bool, sym, subst}
use Rattle.std.specs.Prelude.{◌↔◌}
use Rattle.std.proofs.lemmas.Result.{IfOk-weaker}
use Rattle.oci_prune.specs.Attached.{AttachedIn}
use Rattle.oci_prune.specs.Plan.{RefersIf}
use Rattle.oci_prune.proofs.Plans.{attached_by_held, attached_by_none}
use Rattle.oci_prune.proofs.kept.attachments_if.Goals as goal

pub returns-then-keeps_referrers-clause-exact : goal.returns-then-keeps_referrers-clause-exact
returns-then-keeps_referrers-clause-exact g c =
    let store = g.S.Store.state c.args.source.now in
    IfOk-weaker c.of.result _ _ (λ attachments are honest referrer subject.
    subst (λ (keeps : Bool). AttachedIn attachments referrer subject ↔ RefersIf keeps store referrer subject) (sym c.if-keeps_referrers.true)
    (attached_by_held store c.args.held.now attachments (g.S.Store.same_keys c.args.source.now) c.requires (are (honest c.if-keeps_referrers.true)) referrer subject)) c.of.ensures.exact

pub returns-else-keeps_referrers-clause-exact : goal.returns-else-keeps_referrers-clause-exact
returns-else-keeps_referrers-clause-exact g c = λ honest referrer subject.
    let store = g.S.Store.state c.args.source.now in
    subst (λ (keeps : Bool). AttachedIn c.none.result referrer subject ↔ RefersIf keeps store referrer subject) (sym c.if-keeps_referrers.false) (attached_by_none store c.none.result c.none.ensures referrer subject)
