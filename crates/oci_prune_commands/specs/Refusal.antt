-- Why a tag is not removed, and what memory then has of the layout.
use Rattle.std.specs.Prelude.{◌≡◌, ℕ, true, List}
use Rattle.oci_manifest.specs.Descriptor.{Descriptor}
use Rattle.oci_store.specs.Keyed.{has_key}
use Rattle.oci_store.specs.Tags.{IsUntagFault}
use Rattle.oci_dir.specs.Device.{Device}
use Rattle.oci_layout_store.specs.Layout.{LayoutState}
use Rattle.oci_layout_store.specs.Meaning.{meaning}
use Rattle.oci_layout_store.specs.Refusal.{IsSettledFault}
use Rattle.oci_program.specs.declared.fault.ProgramFault.{ProgramFault}
use Rattle.oci_program.specs.declared.fault.ProgramFault.TheVariants as program
use Rattle.oci_prune.specs.Subjects.{IsSubjectFault}
use Rattle.oci_prune_commands.specs.Untagged.{IsLeftUnsaved, keys_going, untagged}

-- A layout that has lost a tag, which had the keys `going`, is not saved without what goes along: a
-- manifest could not be read, and then nothing changed, or the save failed.
abbrev pub IsRefusedRest : {D : Type 0} → (D → Device) → List ℕ → List Descriptor → LayoutState D → LayoutState D → ProgramFault → Type 0
IsRefusedRest device tag going old new (program.Prune e) = IsSubjectFault (meaning (device old.dir) old.graph old.tags) (λ k. has_key old.graph k ≡ true) e × (new ≡ old)
IsRefusedRest device tag going old new (program.Layout e) = IsSettledFault (device old.dir) (device new.dir) e × IsLeftUnsaved device tag going old new e
IsRefusedRest device tag going old new e = ⊥

-- A tag is not removed, or memory ran out before, and then nothing changed. Or it is gone from memory, and
-- the layout is not saved.
abbrev pub IsRefusedUntag : {D : Type 0} → (D → Device) → List ℕ → LayoutState D → LayoutState D → ProgramFault → Type 0
IsRefusedUntag device tag old new (program.Reference e) = IsUntagFault old.tags tag e × (new ≡ old)
IsRefusedUntag device tag old new program.Memory = new ≡ old
IsRefusedUntag device tag old new e = IsRefusedRest device tag (keys_going tag old) (untagged tag old) new e
