-- What `tag` does to the layout in a directory, what it answers, and why a tag is not set.
use Rattle.std.specs.Prelude.{◌≡◌, ◌⊎◌, ◌++◌, ℕ, List, [], codes, length}
use Rattle.std.specs.Map.{keys_of}
use Rattle.oci_manifest.specs.Descriptor.{Descriptor, key_text}
use Rattle.oci_layout_store.specs.Blobs.{stored}
use Rattle.oci_layout_store.specs.Brought.{Brings}
use Rattle.oci_dir.specs.Device.{Device, Touches}
use Rattle.oci_layout_store.specs.Entries.{said}
use Rattle.oci_layout_store.specs.Index.{HasIndex, index_file}
use Rattle.oci_layout_store.specs.Lasts.{Lasts}
use Rattle.oci_layout_store.specs.Layout.{LayoutState}
use Rattle.oci_layout_store.specs.Refusal.{IsSettledFault}
use Rattle.oci_program.specs.Opened.{IsOpenedSettled}
use Rattle.oci_reference.specs.Reference.{IsReferenceFault, Names}
use Rattle.oci_program.specs.declared.fault.ProgramFault.{ProgramFault}
use Rattle.oci_program.specs.declared.fault.ProgramFault.TheVariants as program
use Rattle.oci_prune.specs.Settled.{CanSettle}
use Rattle.oci_store.specs.Content.{Entry}
use Rattle.oci_store.specs.Tags.{Tags, set_tag}
use Rattle.oci_store.specs.declared.fault.RefFault.{RefFault}
use Rattle.oci_store.specs.declared.fault.RefFault.TheVariants as reference
use Rattle.oci_entries.specs.Brought.{reference_entry}

-- ---- the layout that is left

-- A tag names the key that a reference names, and all other tags stay. The entry of the reference is
-- brought under the name of the tag. The layout holds what it held, and its index is saved; no other
-- file changed. If the layout could be saved whole before, it lasts as it is now.
pub record IsTagged {D : Type 0} (device : D → Device) (name tag : List ℕ) (old new : LayoutState D) (key : Descriptor) : Type 0 where
  pub named : Names (keys_of old.graph) old.tags name key
  pub tags : new.tags ≡ set_tag old.tags tag key
  pub brought : Brings (reference_entry (said old.opened.content).entries name tag key) new.tags old.opened new.opened
  pub graph : new.graph ≡ old.graph
  pub index : (device old.dir).is_honest → HasIndex (device new.dir).file new.graph new.tags new.opened
  pub other : (device old.dir).is_honest → Touches (device old.dir).file (device new.dir).file index_file
  pub lasts : (entries : List Entry) (tags : Tags) → CanSettle (device old.dir) (length old.graph) old.graph entries tags
      → Lasts (device new.dir) (stored (device new.dir).file new.graph) new.tags

-- ---- the answer

-- the line of a tag that was set: the key that it names
abbrev pub tagged_line : Descriptor → List ℕ
tagged_line k = codes "tagged " ++ key_text k ++ codes "\n"

-- ---- the command

-- the layout in a directory was opened, and left with a tag on the key that a reference names
pub record IsTagRun {D : Type 0} (device : D → Device) (dir : D) (name tag : List ℕ) (key : Descriptor) : Type 0 where
  pub opened : LayoutState D
  pub is_opened : IsOpenedSettled device dir opened
  pub left : LayoutState D
  pub tagged : IsTagged device name tag opened left key

-- ---- a refusal

-- a held key does not get a tag: the tag is empty, or memory ran out
abbrev pub IsNameFault : List ℕ → RefFault → Type 0
IsNameFault tag reference.EmptyReference = tag ≡ []
IsNameFault tag reference.Memory = Unit {0}
IsNameFault tag e = ⊥

-- A tag of a held key is not set, and then nothing changed; or the save after it failed. If memory ran
-- out, no file changed.
abbrev pub IsUnsetTag : {D : Type 0} → (D → Device) → List ℕ → LayoutState D → LayoutState D → ProgramFault → Type 0
IsUnsetTag device tag old new (program.Reference e) = IsNameFault tag e × (new ≡ old)
IsUnsetTag device tag old new (program.Layout e) = IsSettledFault (device old.dir) (device new.dir) e
IsUnsetTag device tag old new program.Memory = new.dir ≡ old.dir
IsUnsetTag device tag old new e = ⊥

-- the reference is refused, and nothing changed, or the tag is not set on its key
abbrev pub IsRefusedTag : {D : Type 0} → (D → Device) → List ℕ → List ℕ → LayoutState D → LayoutState D → ProgramFault → Type 0
IsRefusedTag device name tag old new e = (IsReferenceFault (device old.dir) old name e × (new ≡ old)) ⊎ IsUnsetTag device tag old new e
