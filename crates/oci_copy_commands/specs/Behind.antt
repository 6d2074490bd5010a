-- What a copy leaves in its source, and its destination lacks.
use Rattle.std.specs.Prelude.{◌≡◌, ◌≢◌, ◌↔◌, ◌⊎◌, ⊤, true, false, List, [], None, is_some, Contains}
use Rattle.std.specs.List.Sorted.{IsStrictlySortedBy}
use Rattle.oci_command_line.specs.declared.changing.CopyWords.{CopyWords}
use Rattle.oci_command_line.specs.declared.changing.Selection.{Selection}
use Rattle.oci_command_line.specs.declared.changing.Selection.TheVariants as selection
use Rattle.oci_dir.specs.Device.{Device, File}
use Rattle.oci_layout_store.specs.Blobs.{blob_path}
use Rattle.oci_layout_store.specs.Layout.{LayoutState}
use Rattle.oci_layout_store.specs.Meaning.{meaning}
use Rattle.oci_layout_store.specs.declared.fault.LayoutFault.TheVariants as layout
use Rattle.oci_manifest.specs.Descriptor.{Descriptor, key_cmp}
use Rattle.oci_prune.specs.Aside.{IsAsideFault, IsPassedOver}
use Rattle.oci_prune.specs.Attached.{AttachedBy}
use Rattle.oci_prune.specs.Belonging.{IsAttachedMember}
use Rattle.oci_prune.specs.Free.{IsFree}
use Rattle.oci_prune.specs.Plan.{roots_of}
use Rattle.oci_prune.specs.Subjects.{IsSubjectFault}
use Rattle.oci_program.specs.declared.fault.ProgramFault.{ProgramFault}
use Rattle.oci_program.specs.declared.fault.ProgramFault.TheVariants as program
use Rattle.oci_store.specs.Graph.{Node}
use Rattle.oci_store.specs.Keyed.{has_key}
use Rattle.oci_store.specs.State.{State}
use Rattle.oci_copy_commands.specs.declared.behind.LeftBehind.{LeftBehind}

-- the key is attached in a source, directly or not, to what these keys reach there, and is not held in
-- the destination
abbrev pub IsAttachedLeft : State → List Descriptor → List Node → Descriptor → Type 0
IsAttachedLeft source roots held k = IsAttachedMember source.nodes roots (AttachedBy source.entries source.tags) k × (has_key held k ≡ false)

-- these keys are all that is attached and left
abbrev pub AreAttachedLeft : State → List Descriptor → List Node → List Descriptor → Type 0
AreAttachedLeft source roots held found = (k : Descriptor) → Contains found k ↔ IsAttachedLeft source roots held k

-- these keys are all that no tag of a source names, that is wanted for itself there, and that is not
-- held in the destination
abbrev pub AreUntaggedLeft : State → List Descriptor → List Node → List Descriptor → Type 0
AreUntaggedLeft source named held found = (k : Descriptor) → Contains found k ↔ (IsFree source named k × (has_key held k ≡ false))

-- each tag is selected, whatever its name is
abbrev pub SelectsAll : Selection → Type 0
SelectsAll (selection.Reference from to platform) = ⊥
SelectsAll (selection.AllTags patterns) = patterns.items ≡ []

-- a copy of these roots passes over the key, since it is not to be distributed, and the destination has
-- no file of its digest
abbrev pub IsPassedLayer : State → List Descriptor → File → Descriptor → Type 0
IsPassedLayer source roots file k = IsPassedOver source.nodes source.entries roots k × (is_some (file (blob_path k.digest)) ≡ false)

-- these keys are all such, in key order
pub record ArePassedLayers (source : State) (roots : List Descriptor) (file : File) (found : List Descriptor) : Type 0 where
  pub each : (k : Descriptor) → Contains found k ↔ IsPassedLayer source roots file k
  pub order : IsStrictlySortedBy key_cmp found

-- What a copy by these words left in an honest source: without `--referrers` what is attached to what
-- these roots reach, and if each tag is selected the images without a tag. With `--referrers`, or if
-- only some tags are selected, it names none. It always names the layers that were passed over.
pub record IsLeftBehind {S D : Type 0} (from : S → Device) (to : D → Device) (words : CopyWords) (source : LayoutState S) (roots : List Descriptor) (left : LayoutState D) (behind : LeftBehind) : Type 0 where
  pub attached : words.referrers ≡ None → (from source.dir).is_honest → AreAttachedLeft (meaning (from source.dir) source.graph source.tags) roots left.graph behind.attached.items
  pub asked : words.referrers ≢ None → behind.attached.items ≡ []
  pub untagged : SelectsAll words.selection → (from source.dir).is_honest → AreUntaggedLeft (meaning (from source.dir) source.graph source.tags) (roots_of source) left.graph behind.untagged.items
  pub picked : (SelectsAll words.selection → ⊥) → behind.untagged.items ≡ []
  pub passed : (from source.dir).is_honest → (to left.dir).is_honest → ArePassedLayers (meaning (from source.dir) source.graph source.tags) roots (to left.dir).file behind.passed.items

-- why it is not known what a copy left in a source: a held manifest that may have a subject was not read,
-- or memory ran out
abbrev pub IsUnreadSource : {S : Type 0} → (S → Device) → LayoutState S → ProgramFault → Type 0
IsUnreadSource device source (program.Source e) = IsSubjectFault (meaning (device source.dir) source.graph source.tags) (λ k. has_key source.graph k ≡ true) e
IsUnreadSource device source program.Memory = ⊤
IsUnreadSource device source e = ⊥

-- why it is not known which layers of a source a copy passed over: a held manifest was not read, or
-- memory ran out
abbrev pub IsUnreadManifest : {S : Type 0} → (S → Device) → LayoutState S → ProgramFault → Type 0
IsUnreadManifest device source (program.Source e) = IsAsideFault (meaning (device source.dir) source.graph source.tags) (λ k. has_key source.graph k ≡ true) e
IsUnreadManifest device source e = ⊥

-- why it is not known whether a destination has a file
abbrev pub IsUnknownFile : Device → ProgramFault → Type 0
IsUnknownFile dir (program.Destination layout.Device) = dir.fails_reads ≡ true
IsUnknownFile dir (program.Destination layout.Memory) = ⊤
IsUnknownFile dir program.Memory = ⊤
IsUnknownFile dir e = ⊥

-- why it is not known which of these layers were not copied
abbrev pub IsUnreadLayers : {S D : Type 0} → (S → Device) → (D → Device) → LayoutState S → LayoutState D → ProgramFault → Type 0
IsUnreadLayers from to source left e = IsUnreadManifest from source e ⊎ IsUnknownFile (to left.dir) e

-- why it is not known what a copy left behind
abbrev pub IsUnreadBehind : {S D : Type 0} → (S → Device) → (D → Device) → LayoutState S → LayoutState D → ProgramFault → Type 0
IsUnreadBehind from to source left e = IsUnreadSource from source e ⊎ IsUnreadLayers from to source left e
