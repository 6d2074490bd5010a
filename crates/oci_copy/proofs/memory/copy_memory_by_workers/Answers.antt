use Rattle.oci_store.specs.Contents.{Contents}
use Rattle.oci_store.specs.Graph.{nodes_of}
use Rattle.oci_copy.specs.Cause.{CanFail, IsRefusal, IsStepCause}
use Rattle.oci_copy.specs.Plain.{IsUnfailing, RefusedForPlan}
use Rattle.oci_copy.proofs.Destinations.{closed_when_skipping}
use Rattle.oci_copy.proofs.InMemory.{state, copied, grows}
use Rattle.oci_copy.proofs.Unfailing.{unfailing_in_memory}
use Rattle.oci_copy.proofs.Workers.{answered_plainly}
use Rattle.oci_copy.proofs.memory.copy_memory_by_workers.Goals as goal

pub returns-clause-copied : goal.returns-clause-copied
returns-clause-copied g c =
    copied c.args.options.now c.args.source.now c.args.destination c.copy_graph-destination.result.0 c.args.roots.now c.copy_graph-destination.result.1
    c.copy_graph-destination.ensures.copied

pub returns-clause-grows : goal.returns-clause-grows
returns-clause-grows g c =
    grows c.args.source.now c.args.destination c.copy_graph-destination.result.0 c.args.roots.now c.copy_graph-destination.result.1 c.copy_graph-destination.ensures.grows
    (rw c.memory.ensures.same at c.len-content.ensures.content) c.copy_graph-destination.ensures.spared.tags c.copy_graph-destination.ensures.spared.unchanged

pub returns-clause-refused : goal.returns-clause-refused
returns-clause-refused g c =
    let s = c.args.source.now in
    let d = c.args.destination in
    let options = c.args.options.now in
    let closed = rw c.memory-closed.ensures.same at c.memory-closed.ensures.closed in
    answered_plainly options.workers (IsRefusal (IsStepCause (CanFail state (state d))) options (state s) (state d) c.args.roots.now)
    (RefusedForPlan s.entries options (nodes_of d.entries) c.args.roots.now) ((store : Contents) → IsUnfailing options.existing (state s) (state d) (state store))
    (λ store. unfailing_in_memory options.existing s d store c.len-readable.ensures.content (closed_when_skipping options.existing (nodes_of d.entries) closed))
    c.copy_graph-destination.result.1 c.copy_graph-destination.ensures.refused c.copy_graph-destination.ensures.plain
