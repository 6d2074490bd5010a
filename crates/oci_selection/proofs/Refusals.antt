-- Why tags are not selected.
use Rattle.std.proofs.Common.{ℕ, List}
use Rattle.oci_manifest.specs.Descriptor.{Descriptor}
use Rattle.oci_store.specs.State.{State}
use Rattle.oci_store.specs.Tags.{Tags}
use Rattle.oci_program.specs.declared.fault.ProgramFault.{ProgramFault}
use Rattle.oci_program.specs.declared.fault.ProgramFault.TheVariants as program
use Rattle.oci_prune.specs.Subjects.{IsSubjectFault}
use Rattle.oci_prune_fault.specs.declared.fault.PruneFault.{PruneFault}
use Rattle.oci_prune_fault.specs.declared.fault.PruneFault.TheVariants as prune
use Rattle.oci_selection.specs.Refusal.{IsNoTagsFault, IsOtherFault}

-- a fault of a subject says nothing of tags
pub subject_other : (store : State) (is_one : Descriptor → Type 0) (e : PruneFault) → IsSubjectFault store is_one e → IsOtherFault (program.Source e)
subject_other store is_one (prune.NotRemoved path) h = tt
subject_other store is_one (prune.Fetch k e) h = tt
subject_other store is_one (prune.Layout e) h = tt
subject_other store is_one prune.Memory h = tt
subject_other store is_one (prune.Unknown k) h = tt
subject_other store is_one prune.NoTags h = absurd h
subject_other store is_one (prune.LinkedBlobs path) h = tt

-- a fault that says nothing of tags has some other cause
pub other_fault : (patterns : List (List ℕ)) (tags : Tags) (e : ProgramFault) → IsOtherFault e → IsNoTagsFault patterns tags e
other_fault patterns tags (program.Source (prune.NotRemoved path)) h = tt
other_fault patterns tags (program.Source (prune.Fetch k e)) h = tt
other_fault patterns tags (program.Source (prune.Layout e)) h = tt
other_fault patterns tags (program.Source prune.Memory) h = tt
other_fault patterns tags (program.Source (prune.Unknown k)) h = tt
other_fault patterns tags (program.Source prune.NoTags) h = absurd h
other_fault patterns tags (program.Source (prune.LinkedBlobs path)) h = tt
other_fault patterns tags (program.Prune (prune.NotRemoved path)) h = tt
other_fault patterns tags (program.Prune (prune.Fetch k e)) h = tt
other_fault patterns tags (program.Prune (prune.Layout e)) h = tt
other_fault patterns tags (program.Prune prune.Memory) h = tt
other_fault patterns tags (program.Prune (prune.Unknown k)) h = tt
other_fault patterns tags (program.Prune prune.NoTags) h = absurd h
other_fault patterns tags (program.Prune (prune.LinkedBlobs path)) h = tt
other_fault patterns tags program.NoMatch h = absurd h
other_fault patterns tags e h = tt
