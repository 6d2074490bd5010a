use Rattle.std.proofs.lemmas.Result.{IfErr-weaker}
use Rattle.oci_store.specs.Graph.{nodes_of}
use Rattle.oci_store.specs.State.{in_memory}
use Rattle.oci_copy.specs.Plain.{IsUnfailing, RefusedForPlan}
use Rattle.oci_copy.specs.declared.fault.CopyFault.{CopyFault}
use Rattle.oci_copy.proofs.Destinations.{closed_when_skipping}
use Rattle.oci_copy.proofs.InMemory.{copied, grows}
use Rattle.oci_copy.proofs.Unfailing.{unfailing_in_memory}
use Rattle.oci_copy.proofs.memory.copy_memory.Goals as goal

pub returns-clause-copied : goal.returns-clause-copied
returns-clause-copied c =
    copied c.args.options.now c.args.source.now c.args.destination c.copy_one-destination.result.0 c.args.roots.now c.copy_one-destination.result.1
    c.copy_one-destination.ensures.copied

pub returns-clause-grows : goal.returns-clause-grows
returns-clause-grows c =
    grows c.args.source.now c.args.destination c.copy_one-destination.result.0 c.args.roots.now c.copy_one-destination.result.1 c.copy_one-destination.ensures.grows
    (rw c.memory.ensures.same at c.len-content.ensures.content) c.copy_one-destination.ensures.spared.tags c.copy_one-destination.ensures.spared.unchanged

pub returns-clause-refused : goal.returns-clause-refused
returns-clause-refused c =
    let s = c.args.source.now in
    let d = c.args.destination in
    let n = c.copy_one-destination.result.0 in
    let refused = RefusedForPlan s.entries c.args.options.now (nodes_of d.entries) c.args.roots.now in
    let closed = rw c.memory-closed.ensures.same at c.memory-closed.ensures.closed in
    IfErr-weaker c.copy_one-destination.result.1
    (λ (e : CopyFault). IsUnfailing c.args.options.now.existing (in_memory s.entries s.tags) (in_memory d.entries d.tags) (in_memory n.entries n.tags) → refused e) refused
    (λ e plain. plain (unfailing_in_memory c.args.options.now.existing s d n c.len-readable.ensures.content (closed_when_skipping c.args.options.now.existing (nodes_of d.entries) closed))) c.copy_one-destination.ensures.plain
