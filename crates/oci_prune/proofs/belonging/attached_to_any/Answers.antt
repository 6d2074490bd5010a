use Rattle.std.proofs.Common.{List, subst, arith}
use Rattle.std.proofs.lemmas.List.{take_all}
use Rattle.oci_manifest.specs.Descriptor.{Descriptor}
use Rattle.oci_prune.specs.Belonging.{AreAttachedTo}
use Rattle.oci_prune.proofs.Bringing.{attached_to_more}
use Rattle.oci_prune.proofs.belonging.attached_to_any.Goals as goal

pub loop-subject-preserved : goal.loop-subject-preserved
loop-subject-preserved c =
    attached_to_more c.args.attachments.now c.args.members.now c.args.subjects.now c.loop-subject.subject-index c.subject-item.result c.loop-subject.found c.place_attached.new.found c.loop-subject-test.true c.subject-item.is c.loop-subject.invariant
    c.in_ok-place_attached.ensures

pub returns-clause-exact : goal.returns-clause-exact
returns-clause-exact c =
    rw c.into_keys.ensures.keys
    (subst (λ (ks : List Descriptor). AreAttachedTo c.args.attachments.now c.args.members.now ks c.loop-subject.found) (take_all c.loop-subject.subject-index c.args.subjects.now (omega (arith, c.loop-subject-test.false))) c.loop-subject.invariant)
