use Rattle.std.proofs.Common.{take, sym, subst}
use Rattle.oci_dir.specs.Prunable.{by_name}
use Rattle.oci_layout_store.specs.BlobFiles.{Notes}
use Rattle.oci_layout_store.proofs.Noted.{Notes-append, by_name-more}
use Rattle.oci_layout_store.proofs.layout.prune.note_blobs.Goals as goal

pub loop-file-preserved : goal.loop-file-preserved
loop-file-preserved c =
    let i = c.loop-file.file-index in
    let files = c.args.files.now in
    let file = c.file-item.result in
    let algorithm = c.args.algorithm.now in
    subst (λ names. Notes algorithm names c.args.sizes.now c.note_blob.new.sizes) (sym (by_name-more files i file c.loop-file-test.true c.file-item.is))
    (Notes-append algorithm (by_name (take i files)) _ c.args.sizes.now c.loop-file.sizes c.note_blob.new.sizes c.loop-file.invariant c.in_ok-note_blob.ensures)
