use Rattle.std.proofs.Common.{sym, subst}
use Rattle.oci_dir.specs.Device.{File}
use Rattle.oci_dir.specs.Prunable.{by_name}
use Rattle.oci_layout_store.specs.BlobFiles.{AreBlobs}
use Rattle.oci_layout_store.proofs.Noted.{AreBlobs-noted}
use Rattle.oci_layout_store.proofs.layout.prune.blobs_in.Goals as goal

pub returns : goal.returns
returns g c =
    let file : File = (g.D.Dir.device c.args.dir.now).file in
    let first = by_name c.in_ok-files.files.items in
    let second = by_name c.in_ok-files-2.files.items in
    let noted = rw c.deref.ensures.value at c.in_ok-note_blobs.ensures in
    let noted_too = rw c.deref-2.ensures.value at c.in_ok-note_blobs-2.ensures in
    record {
      found = λ honest. subst (λ blobs. AreBlobs file blobs) (sym c.in_ok-blobs.ensures.exact)
          (AreBlobs-noted file first second c.new-sizes.result c.note_blobs.new.sizes c.note_blobs-2.new.sizes c.new-sizes.ensures.empty (c.in_ok-files.ensures.found honest) (c.in_ok-files-2.ensures.found honest)
          noted noted_too c.in_ok-blobs.ensures.order);
      cause = tt;
    }
