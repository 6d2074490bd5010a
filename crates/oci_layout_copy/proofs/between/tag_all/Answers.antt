use Rattle.std.proofs.Common.{◌≡◌, ◌≢◌, ℕ, true, List, []}
use Rattle.std.proofs.lemmas.Result.{IfErr-at_err}
use Rattle.oci_manifest.specs.Descriptor.{Descriptor}
use Rattle.oci_store.specs.Keyed.{has_key}
use Rattle.oci_store.specs.declared.fault.RefFault.{RefFault}
use Rattle.oci_store.specs.declared.fault.RefFault.TheVariants as fault
use Rattle.oci_selection.proofs.Selections.{only_memory, name_at, key_at}
use Rattle.oci_layout_copy.proofs.between.tag_all.Goals as goal

pub returns-in-Err-clause-memory : goal.returns-in-Err-clause-memory
returns-in-Err-clause-memory g c =
    let held = key_at c.args.tags.now c.loop-name.name-index c.loop-name-item.result c.loop-name-test.true c.loop-name-item.is (λ (k : Descriptor). has_key c.args.destination.now.graph k ≡ true) c.requires.held in
    IfErr-at_err (λ (e : RefFault). e ≡ fault.Memory) c.in-Err.is
    (only_memory c.tag.result _ c.loop-name.destination.graph _ c.tag.ensures.answer
    (rw c.deref.ensures (name_at c.args.tags.now c.loop-name.name-index c.loop-name-item.result c.loop-name-test.true c.loop-name-item.is (λ (name : List ℕ). name ≢ []) c.requires.named)) (rw c.loop-name.invariant.graph held))
