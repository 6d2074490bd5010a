use Rattle.std.proofs.Common.{◌≡◌, List, [], ◌∷◌, ◌++◌, length, Ok, refl}
use Rattle.oci_digest.proofs.DigestLemmas.{IsDigest-from_Verifies}
use Rattle.oci_manifest.specs.Descriptor.{Descriptor}
use Rattle.oci_store.specs.Push.{closed_check}
use Rattle.oci_store.proofs.Contents.{IsNew-from_checked}
use Rattle.oci_layout_store.specs.Blobs.{blob_path}
use Rattle.oci_dir.specs.Crash.{LeavesPut}
use Rattle.oci_dir.specs.Device.{IsPut, Only}
use Rattle.oci_layout_store.specs.Push.{Settles}
use Rattle.oci_layout_store.proofs.Crash.{Lasts-put}
use Rattle.oci_layout_store.proofs.Pushed.{IsLayout-settled, IsPush-settled}
use Rattle.oci_layout_store.proofs.layout.dest.LayoutDest.push_checked.Goals as goal

pub invariant_of-self-2 : goal.invariant_of-self-2
invariant_of-self-2 g c =
    let s = c.self.inside in
    let put = rw (c.deref.ensures, c.in_ok-path.ensures) at c.put_blob-answer.ensures.put in (
      IsLayout-settled (g.D.Dir.device s.dir) (g.D.Dir.device c.put_blob-answer.new.dir) s.graph c.push.new.self c.settle.new.graph s.tags (c.into_parts-key.result.0, c.into_parts-key.result.2.items)
          c.digest.result.now _ c.len-place.result c.put_blob-answer.result c.settle.result c.in_ok-push.ensures.pushed put c.settle.ensures c.self.invariant.0,
      tt,
    )

pub returns-clause-pushed : goal.returns-clause-pushed
returns-clause-pushed g c =
    let s = c.self.inside in
    let k = c.args.content.0 in
    let bytes = c.args.content.1 in
    let parts = c.into_parts-key.ensures in
    let ks = c.into_parts-key.result.2.items in
    let old = g.D.Dir.device s.dir in
    let new = g.D.Dir.device c.put_blob-answer.new.dir in
    let put : IsPut old new (blob_path k.digest) (Only bytes) c.put_blob-answer.result = rw (c.deref.ensures, c.in_ok-path.ensures, c.digest.ensures, parts.key, parts.bytes) at c.put_blob-answer.ensures.put in
    let left : old.is_honest → LeavesPut old new (blob_path k.digest) (Only bytes) = rw (c.deref.ensures, c.in_ok-path.ensures, c.digest.ensures, parts.key, parts.bytes) at c.put_blob-answer.ensures.left in
    let pushed : c.push.new.self ≡ s.graph ++ (k, ks) ∷ [] = rw parts.key at c.in_ok-push.ensures.pushed in
    let checked : (listed : List Descriptor) × (closed_check s.graph k bytes ≡ Ok listed) = c.in_ok-check_closed.ensures.checked.0 in
    let passed = IsNew-from_checked s.graph k bytes ks c.in_ok-check_closed.ensures.new parts.successors in
    let settled : Settles (length s.graph) c.push.new.self c.settle.new.graph c.put_blob-answer.result c.settle.result = rw c.len-place.ensures.count at c.settle.ensures in
    rw (← c.self.view_is)
    (IsPush-settled old new s.graph c.push.new.self c.settle.new.graph s.tags k bytes ks checked.0 (Only bytes) c.put_blob-answer.result c.settle.result
    c.len-place.ensures.keys passed checked.1 refl pushed put settled
    (λ entries names. Lasts-put old new entries names k bytes (Only bytes) (IsDigest-from_Verifies k.digest bytes passed.matching.1) refl put.device.honest.0 left))
