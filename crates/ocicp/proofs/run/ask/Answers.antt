use Rattle.std.proofs.Common.{inl, inr}
use Rattle.std.proofs.lemmas.Result.{IfOk-weaker}
use Rattle.ocicp.proofs.Done.{answered_on_ok}
use Rattle.ocicp.proofs.run.ask.Goals as goal

pub returns-in-Folder : goal.returns-in-Folder
returns-in-Folder g c =
    let opened = rw c.in-Folder.is at c.in_ok-dir.ensures in
    let ran = c.run_query in
    IfOk-weaker ran.result _ _ (λ outcome answered. inl (opened.1, rw opened.0 at answered)) (answered_on_ok ran.result _ _ _ _ _ ran.ensures.verified ran.ensures.faulty ran.ensures.below ran.ensures.answered ran.ensures.printed ran.ensures.written)

pub returns-in-Archive : goal.returns-in-Archive
returns-in-Archive g c =
    let ran = c.run_query-in-Archive in
    IfOk-weaker ran.result _ _ (λ outcome answered. inr (c.in-Archive.dir, answered)) (answered_on_ok ran.result _ _ _ _ _ ran.ensures.verified ran.ensures.faulty ran.ensures.below ran.ensures.answered ran.ensures.printed ran.ensures.written)
