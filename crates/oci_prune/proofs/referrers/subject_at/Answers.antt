use Rattle.std.proofs.Common.{◌≡◌, Ok, Some}
use Rattle.std.specs.Prelude.{◌↔◌}
use Rattle.oci_manifest.specs.Descriptor.{Descriptor}
use Rattle.oci_manifest.specs.Fault.{Fails}
use Rattle.oci_manifest.specs.MediaTypes.{kind_of}
use Rattle.oci_manifest.specs.Subject.{subject_of}
use Rattle.oci_prune.specs.Typed.{Passes}
use Rattle.oci_prune.proofs.Stating.{passing_exact, unread_fault}
use Rattle.oci_prune.proofs.referrers.subject_at.Goals as goal

pub returns-in-Ok-subject : goal.returns-in-Ok-subject
returns-in-Ok-subject g c =
    let store = g.S.Store.state c.args.source.now in
    let k = c.args.key.now in
    let filter = c.args.filter.now in
    let found = c.in_ok-passing-in-Ok-subject.field-0 in
    let read : subject_of (kind_of k.media_type) c.in-Ok.bytes ≡ Ok c.in-Ok-subject.stated = rw (c.of-kind.ensures, c.media_type.ensures, c.as_slice.ensures) at c.in-Ok-subject.ensures.exact in
    let passes : (subject : Descriptor) → (found ≡ Some subject) ↔ ((c.in-Ok-subject.stated ≡ Some subject) × Passes filter (kind_of k.media_type) c.in-Ok.bytes subject) =
    rw (c.of-kind.ensures, c.media_type.ensures, c.as_slice-in-Ok-subject.ensures) at c.in_ok-passing-in-Ok-subject.ensures in
    record { exact = λ honest. passing_exact store.entries filter k c.in-Ok.bytes c.in-Ok-subject.stated found (c.in-Ok.ensures.honest honest) read passes; cause = tt }

pub returns : goal.returns
returns g c =
    let store = g.S.Store.state c.args.source.now in
    let k = c.args.key.now in
    let read : Fails c.in-Err-subject.fault (subject_of (kind_of k.media_type) c.in-Ok.bytes) = rw (c.of-kind.ensures, c.media_type.ensures, c.as_slice.ensures) at c.in-Err-subject.ensures.exact in
    record { exact = tt; cause = rw (c.of_manifest.ensures, c.in_ok-try_clone-in-Err-subject.ensures) (unread_fault store k c.in-Ok.bytes c.in-Err-subject.fault c.in-Ok.ensures.matching c.in-Ok.ensures.honest read) }
