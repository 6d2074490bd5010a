use Rattle.std.proofs.Common.{◌≡◌, Ok}
use Rattle.oci_manifest.specs.Fault.{Fails}
use Rattle.oci_manifest.specs.MediaTypes.{kind_of}
use Rattle.oci_manifest.specs.Undistributed.{undistributed_of}
use Rattle.oci_prune.proofs.Asides.{aside_exact, unread_aside}
use Rattle.oci_prune.proofs.aside.undistributed_by.Goals as goal

pub returns-in-Ok-undistributed-clause-exact : goal.returns-in-Ok-undistributed-clause-exact
returns-in-Ok-undistributed-clause-exact g c = λ honest.
    let k = c.args.key.now in
    let keys = c.in-Ok-undistributed.keys.items in
    let read : undistributed_of (kind_of k.media_type) c.in-Ok.bytes ≡ Ok keys = rw (c.of-kind.ensures, c.media_type.ensures, c.as_slice.ensures) at c.in-Ok-undistributed.ensures.exact in
    aside_exact (g.S.Store.state c.args.source.now).entries k c.in-Ok.bytes keys (c.in-Ok.ensures.honest honest) read

pub returns-clause-cause : goal.returns-clause-cause
returns-clause-cause g c =
    let k = c.args.key.now in
    let e = c.in-Err-undistributed.fault in
    let read : Fails e (undistributed_of (kind_of k.media_type) c.in-Ok.bytes) = rw (c.of-kind.ensures, c.media_type.ensures, c.as_slice.ensures) at c.in-Err-undistributed.ensures.exact in
    rw (c.of_manifest.ensures, c.in_ok-try_clone-in-Err-undistributed.ensures) (unread_aside (g.S.Store.state c.args.source.now) k c.in-Ok.bytes e c.in-Ok.ensures.matching c.in-Ok.ensures.honest read)
