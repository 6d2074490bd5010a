use Rattle.std.proofs.Common.{◌≡◌, Some, inl, refl, sym}
use Rattle.oci_layout_store.specs.Blobs.{blob_path}
use Rattle.oci_dir.specs.Device.{IsSizedRead, of_length}
use Rattle.oci_layout_store.proofs.Refusals.{read_fault}
use Rattle.oci_layout_store.proofs.Walk.{manifest_damage, of_length_is, read_whole}
use Rattle.oci_layout_store.proofs.Stated.{read_links}
use Rattle.oci_layout_store.proofs.layout.walk.checked_manifest.Goals as goal

pub returns-in-Ok-clause-found : goal.returns-in-Ok-clause-found
returns-in-Ok-clause-found g c = λ honest.
    let file = (g.D.Dir.device c.args.dir.now).file in
    let k = c.args.key.now in
    let bytes = c.as_slice.result.now in
    let found : of_length k.size (file (blob_path k.digest)) ≡ Some bytes =
    sym (rw (c.deref.ensures, c.in_ok-path.ensures, c.digest.ensures, c.size.ensures.size, c.in-Some.is, sym c.as_slice.ensures) at c.in_ok-bytes.ensures.found honest) in
    let at = of_length_is k.size (file (blob_path k.digest)) bytes found in
    let read = read_whole file k bytes c.in-Ok.links.successors.items c.requires.manifest at c.in-Ok.ensures.matching c.in-Ok.ensures.listed in
    (read.0, read_links file k bytes c.in-Ok.links at read.1 c.in-Ok.ensures.subject c.in-Ok.ensures.undistributed)

pub returns-clause-cause : goal.returns-clause-cause
returns-clause-cause g c =
    let dir = g.D.Dir.device c.args.dir.now in
    let k = c.args.key.now in
    let bytes = c.as_slice.result.now in
    let read : dir.is_honest → IsSizedRead (dir.file (blob_path k.digest)) k.size (Some bytes) = λ honest.
    (let found : of_length k.size (dir.file (blob_path k.digest)) ≡ Some bytes =
    sym (rw (c.deref.ensures, c.in_ok-path.ensures, c.digest.ensures, c.size.ensures.size, c.in-Some.is, sym c.as_slice.ensures) at c.in_ok-bytes.ensures.found honest) in
    (bytes, of_length_is k.size (dir.file (blob_path k.digest)) bytes found, inl refl)) in
    manifest_damage dir k c.in-Err.fault (read_fault dir k bytes c.in-Err.fault c.requires.manifest read c.in-Err.ensures.cause)
