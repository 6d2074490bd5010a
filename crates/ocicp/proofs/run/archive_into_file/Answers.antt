use Rattle.std.proofs.Common.{inl, inr}
use Rattle.ocicp.proofs.Done.{both_on_ok}
use Rattle.ocicp.proofs.run.archive_into_file.Goals as goal

pub returns-in-Folder : goal.returns-in-Folder
returns-in-Folder g c =
    let place = c.in_ok-folder.ensures in
    let opened = rw c.in-Folder.is at c.in_ok-source.ensures in
    let from = opened.0 in
    let archived_to = rw place.fresh at c.run_archive.ensures.archived in
    both_on_ok c.run_archive.result _ _ _ _ _ (rw from at archived_to) (rw from at c.run_archive.ensures.planned)
    (λ archived planned. (c.in_ok-folder.folder.0, c.in_ok-folder.name.now, place.file, inl (opened.1, record { archived = archived; planned = planned })))

pub returns-in-Archive : goal.returns-in-Archive
returns-in-Archive g c =
    let place = c.in_ok-folder.ensures in
    let archived_to = rw place.fresh at c.run_archive-in-Archive.ensures.archived in
    both_on_ok c.run_archive-in-Archive.result _ _ _ _ _ archived_to c.run_archive-in-Archive.ensures.planned
    (λ archived planned. (c.in_ok-folder.folder.0, c.in_ok-folder.name.now, place.file, inr (c.in-Archive.source, record { archived = archived; planned = planned })))
