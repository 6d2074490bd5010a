use Rattle.std.proofs.lemmas.Result.{IfErr-weaker}
use Rattle.oci_store.specs.Graph.{nodes_of}
use Rattle.oci_store.specs.State.{in_memory}
use Rattle.oci_plan.specs.declared.gathering.Existing.TheVariants.{Descend}
use Rattle.oci_copy.specs.Options.{descending}
use Rattle.oci_copy.specs.Plain.{IsUnfailing, RefusedForPlan}
use Rattle.oci_copy.specs.declared.fault.CopyFault.{CopyFault}
use Rattle.oci_copy.proofs.InMemory.{copied, grows}
use Rattle.oci_copy.proofs.Unfailing.{unfailing_in_memory}
use Rattle.oci_copy.proofs.memory.repair_memory.Goals as goal

pub returns-clause-copied : goal.returns-clause-copied
returns-clause-copied c =
    copied (descending c.args.options.now) c.args.source.now c.args.destination c.copy_one-destination.result.0 c.args.roots.now c.copy_one-destination.result.1
    (rw c.descending-descend.ensures at c.copy_one-destination.ensures.copied)

pub returns-clause-grows : goal.returns-clause-grows
returns-clause-grows c =
    grows c.args.source.now c.args.destination c.copy_one-destination.result.0 c.args.roots.now c.copy_one-destination.result.1 c.copy_one-destination.ensures.grows
    c.len-content.ensures.content c.copy_one-destination.ensures.spared.tags c.copy_one-destination.ensures.spared.unchanged

pub returns-clause-refused : goal.returns-clause-refused
returns-clause-refused c =
    let s = c.args.source.now in
    let d = c.args.destination in
    let n = c.copy_one-destination.result.0 in
    let refused = RefusedForPlan s.entries (descending c.args.options.now) (nodes_of d.entries) c.args.roots.now in
    IfErr-weaker c.copy_one-destination.result.1
    (λ (e : CopyFault). IsUnfailing Descend (in_memory s.entries s.tags) (in_memory d.entries d.tags) (in_memory n.entries n.tags) → refused e) refused
    (λ e plain. plain (unfailing_in_memory Descend s d n c.len-readable.ensures.content tt)) (rw c.descending-descend.ensures at c.copy_one-destination.ensures.plain)
