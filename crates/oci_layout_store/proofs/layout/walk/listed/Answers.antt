use Rattle.std.proofs.Common.{◌≡◌, ◌≢◌, Some, sym, ap, ◌∙◌}
use Rattle.oci_manifest.specs.MediaTypes.{kind_of}
use Rattle.oci_manifest.specs.declared.kind.Kind.TheVariants.{Leaf}
use Rattle.oci_layout_store.specs.Blobs.{blob_path}
use Rattle.oci_dir.specs.Device.{IsSizedRead}
use Rattle.oci_layout_store.proofs.Refusals.{read_fault}
use Rattle.oci_layout_store.proofs.Stated.{leaf_links}
use Rattle.oci_layout_store.proofs.layout.walk.listed.Goals as goal

pub returns-then-branch-clause-found : goal.returns-then-branch-clause-found
returns-then-branch-clause-found g c = λ honest.
    let leaf : kind_of c.args.key.now.media_type ≡ Leaf = ap kind_of (sym c.media_type.ensures) ∙ sym c.of-kind.ensures ∙ c.in-Leaf.is in
    let found = rw (c.deref.ensures, c.in_ok-path.ensures, c.digest.ensures) at c.in_ok-exists.ensures.found honest in
    (sym found ∙ c.if-branch.true, leaf_links (g.D.Dir.device c.args.dir.now).file c.args.key.now c.none.result leaf c.none.ensures.successors c.none.ensures.subject c.none.ensures.undistributed)

pub returns : goal.returns
returns g c =
    let dir = g.D.Dir.device c.args.dir.now in
    let k = c.args.key.now in
    let bytes = c.as_slice.result.now in
    let other : kind_of k.media_type ≢ Leaf = λ leaf. c.in_default.not-Leaf (c.of-kind.ensures ∙ ap kind_of c.media_type.ensures ∙ leaf) in
    let read : dir.is_honest → IsSizedRead (dir.file (blob_path k.digest)) k.size (Some bytes) =
    λ honest. rw (c.deref-2.ensures, c.in_ok-path.ensures, c.digest.ensures, c.size.ensures.size, c.in-Some.is, sym c.as_slice.ensures) at c.in_ok-bytes.ensures.read honest in
    record { found = tt; read = record { found = tt; cause = read_fault dir k bytes c.in-Err.fault other read c.in-Err.ensures.cause } }
