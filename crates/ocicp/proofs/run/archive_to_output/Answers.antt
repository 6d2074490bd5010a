use Rattle.std.proofs.Common.{inl, inr}
use Rattle.ocicp.proofs.Done.{both_on_ok}
use Rattle.ocicp.proofs.run.archive_to_output.Goals as goal

pub returns-in-Folder : goal.returns-in-Folder
returns-in-Folder g c =
    let opened = rw c.in-Folder.is at c.in_ok-source.ensures in
    let from = opened.0 in
    both_on_ok c.run_archive_to_output.result _ _ _ _ _ (rw from at c.run_archive_to_output.ensures.archived) (rw from at c.run_archive_to_output.ensures.planned)
    (λ archived planned. inl (opened.1, record { archived = archived; planned = planned }))

pub returns-in-Archive : goal.returns-in-Archive
returns-in-Archive g c =
    both_on_ok c.run_archive_to_output-in-Archive.result _ _ _ _ _ c.run_archive_to_output-in-Archive.ensures.archived c.run_archive_to_output-in-Archive.ensures.planned
    (λ archived planned. inr (c.in-Archive.source, record { archived = archived; planned = planned }))
