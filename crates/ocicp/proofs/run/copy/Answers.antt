use Rattle.std.proofs.Common.{inl, inr}
use Rattle.ocicp.proofs.Done.{both_on_ok}
use Rattle.ocicp.proofs.run.copy.Goals as goal

pub returns-in-Folder : goal.returns-in-Folder
returns-in-Folder g c =
    let opened = rw c.in-Folder.is at c.in_ok-source.ensures.source in
    let from = opened.0 in
    let to = c.in_ok-source.ensures.destination in
    let copied_to = rw to at c.run_copy.ensures.copied in
    let planned_to = rw to at c.run_copy.ensures.planned in
    both_on_ok c.run_copy.result _ _ _ _ _ (rw from at copied_to) (rw from at planned_to) (λ copied planned. inl (opened.1, record { copied = copied; planned = planned }))

pub returns-in-Archive : goal.returns-in-Archive
returns-in-Archive g c =
    let to = c.in_ok-source.ensures.destination in
    both_on_ok c.run_copy-in-Archive.result _ _ _ _ _ (rw to at c.run_copy-in-Archive.ensures.copied) (rw to at c.run_copy-in-Archive.ensures.planned) (λ copied planned. inr (c.in-Archive.source, record { copied = copied; planned = planned }))
