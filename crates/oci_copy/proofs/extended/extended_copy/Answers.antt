use Rattle.std.proofs.Common.{◌≡◌, ◌≤◌, List, [], inl, inr, refl}
use Rattle.oci_manifest.specs.Descriptor.{Descriptor}
use Rattle.oci_plan.specs.Up.{IsUp}
use Rattle.oci_copy.specs.Cause.{CanFail, IsRefusal, IsStepCause, RefusedAt, RefusedByWorkers}
use Rattle.oci_copy.specs.Copy.{IsCopy}
use Rattle.oci_copy.specs.Extended.{OfUp}
use Rattle.oci_copy.specs.Tagged.{name_of, RefusedByReference}
use Rattle.oci_copy.specs.declared.fault.CopyFault.{CopyFault}
use Rattle.oci_copy.specs.declared.fault.CopyFault.TheVariants as fault
use Rattle.oci_copy.specs.declared.report.Report.{Report}
use Rattle.oci_copy.proofs.Headline.{unchanged_grows}
use Rattle.oci_copy.proofs.Roots.{roots_of_reference}
use Rattle.oci_copy.proofs.Tagging.{ok_tagged, refused_tag, answered_tag, tagged_copy, copy_tagged, growth_tagged}
use Rattle.oci_copy.proofs.extended.extended_copy.Goals as goal

pub returns-in-Err-clause-grows : goal.returns-in-Err-clause-grows
returns-in-Err-clause-grows g c = ([], inl refl, unchanged_grows g.D.Dest.shares (g.A.Store.state c.args.source.now) (g.D.Store.state c.args.destination) [])

pub returns-in-Ok-copied-clause-copied : goal.returns-in-Ok-copied-clause-copied
returns-in-Ok-copied-clause-copied g c =
    let done = rw c.in-Ok-copied.is at c.extended_copy_graph-destination.ensures.copied in
    ok_tagged c.tag_copied.result.1 c.in-Ok.root c.in-Ok-copied.report
    (λ (k : Descriptor) (r : Report). OfUp (g.A.Store.state c.args.source.now) k c.args.depth
    (λ (roots : List Descriptor). IsCopy g.D.Dest.shares c.args.options.now (g.A.Store.state c.args.source.now) (g.D.Store.state c.args.destination) roots (g.D.Store.state c.tag_copied.result.0) r))
    c.tag_copied.ensures.root c.tag_copied.ensures.report (done.0, done.1, copy_tagged c.tag_copied.ensures.stays done.2)

pub returns-in-Ok-copied-clause-tagged : goal.returns-in-Ok-copied-clause-tagged
returns-in-Ok-copied-clause-tagged g c =
    let there = rw c.in-Ok-copied.is at c.extended_copy_graph-destination.ensures.held in
    tagged_copy g.D.Store.state (g.A.Store.state c.args.source.now) c.args.source_reference.now (name_of c.args.source_reference.now c.args.destination_reference.now)
    c.args.destination c.extended_copy_graph-destination.result.0 c.tag_copied.result.0 c.in-Ok.root c.tag_copied.result.1
    c.in-Ok.ensures.found there c.extended_copy_graph-destination.ensures.spared.tags c.tag_copied.ensures.stays
    c.tag_copied.ensures.root c.tag_copied.ensures.tagged c.tag_copied.ensures.untagged
    (refused_tag c.tag_copied.result.1 (λ (e : CopyFault). e ≡ fault.Memory) c.in-Ok.ensures.named there refl c.tag_copied.ensures.wants)

pub returns-in-Ok-copied-clause-refused : goal.returns-in-Ok-copied-clause-refused
returns-in-Ok-copied-clause-refused g c =
    let there = rw c.in-Ok-copied.is at c.extended_copy_graph-destination.ensures.held in
    answered_tag c.tag_copied.result.1 (c.args.options.now.workers ≤ 64)
    (RefusedByReference (g.A.Store.state c.args.source.now) c.args.source_reference.now
    (λ (root : Descriptor). RefusedByWorkers c.args.options.now.workers
    (RefusedAt (IsUp (g.A.Store.state c.args.source.now).nodes root c.args.depth)
    (IsRefusal (IsStepCause (CanFail g.D.Store.state (g.D.Store.state c.args.destination))) c.args.options.now
    (g.A.Store.state c.args.source.now) (g.D.Store.state c.args.destination)))))
    (rw c.in-Ok-copied.is at c.extended_copy_graph-destination.ensures.refused) (inl refl)
    (refused_tag c.tag_copied.result.1 (λ (e : CopyFault). e ≡ fault.Memory) c.in-Ok.ensures.named there refl c.tag_copied.ensures.wants)

pub returns-in-Ok-copied-clause-grows : goal.returns-in-Ok-copied-clause-grows
returns-in-Ok-copied-clause-grows g c =
    let was = c.extended_copy_graph-destination.ensures.grows in
    (was.0, roots_of_reference (g.A.Store.state c.args.source.now) c.args.source_reference.now c.in-Ok.root c.args.depth was.0 was.1 c.in-Ok.ensures.found, growth_tagged c.tag_copied.ensures.stays was.2)

pub returns-in-Err-copied-clause-refused : goal.returns-in-Err-copied-clause-refused
returns-in-Err-copied-clause-refused g c = inr (inr (inr (c.in-Ok.root, c.in-Ok.ensures.found, (rw c.in-Err-copied.is at c.extended_copy_graph-destination.ensures.refused).1)))

pub returns-in-Err-copied-clause-tagged : goal.returns-in-Err-copied-clause-tagged
returns-in-Err-copied-clause-tagged g c = record {
  root = tt;
  held = tt;
  tagged = tt;
  untagged = c.extended_copy_graph-destination.ensures.spared.tags;
  unchanged = rw c.in-Err-copied.is at c.extended_copy_graph-destination.ensures.spared.unchanged;
}

pub returns-in-Err-copied-clause-grows : goal.returns-in-Err-copied-clause-grows
returns-in-Err-copied-clause-grows g c =
    let was = c.extended_copy_graph-destination.ensures.grows in
    (was.0, roots_of_reference (g.A.Store.state c.args.source.now) c.args.source_reference.now c.in-Ok.root c.args.depth was.0 was.1 c.in-Ok.ensures.found, was.2)

pub returns-in-Err-copied-clause-plain : goal.returns-in-Err-copied-clause-plain
returns-in-Err-copied-clause-plain g c unfailing = inr (inr (inr (c.in-Ok.root, c.in-Ok.ensures.found, (rw c.in-Err-copied.is at c.extended_copy_graph-destination.ensures.plain) unfailing)))
