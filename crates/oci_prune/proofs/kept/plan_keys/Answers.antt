use Rattle.std.proofs.Common.{true, refl}
use Rattle.std.proofs.lemmas.Result.{IfOk-weaker, IfErr-weaker, on_ok_weaker}
use Rattle.oci_prune.specs.Plan.{RefersIf}
use Rattle.oci_prune.specs.Attached.{AttachedIn}
use Rattle.oci_prune.proofs.Plans.{are_kept_same, all_known_same, safe_from_kept, walk_key_fault}
use Rattle.oci_prune.proofs.kept.plan_keys.Goals as goal

pub returns-clause-kept : goal.returns-clause-kept
returns-clause-kept g c =
    let store = g.S.Store.state c.args.source.now in
    IfOk-weaker c.members_of.result _ _
    (λ kept are honest. are_kept_same store.nodes c.args.roots.now (AttachedIn c.in_ok-attachments.attachments) (RefersIf c.args.keeps_referrers store) kept (c.in_ok-attachments.ensures.exact honest) are) c.members_of.ensures.members

pub returns-clause-safe : goal.returns-clause-safe
returns-clause-safe g c =
    let store = g.S.Store.state c.args.source.now in
    IfOk-weaker c.members_of.result _ _ (λ kept are. safe_from_kept store.nodes c.args.roots.now (AttachedIn c.in_ok-attachments.attachments) kept are) c.members_of.ensures.members

pub returns-clause-known : goal.returns-clause-known
returns-clause-known g c =
    let store = g.S.Store.state c.args.source.now in
    on_ok_weaker c.members_of.result (λ known honest. all_known_same store.nodes c.args.roots.now (AttachedIn c.in_ok-attachments.attachments) (RefersIf c.args.keeps_referrers store) (c.in_ok-attachments.ensures.exact honest) (known refl))
    c.members_of.ensures.known

pub returns-clause-cause : goal.returns-clause-cause
returns-clause-cause g c =
    let store = g.S.Store.state c.args.source.now in
    IfErr-weaker c.members_of.result _ _
    (λ e h. walk_key_fault store c.args.roots.now c.args.keeps_referrers (AttachedIn c.in_ok-attachments.attachments) true e (λ honest. c.in_ok-attachments.ensures.exact (λ _. honest)) h) c.members_of.ensures.cause
