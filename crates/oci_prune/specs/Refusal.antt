-- Why there is no plan of a prune, or why it is not carried out.
use Rattle.std.specs.Prelude.{◌≡◌, ◌≢◌, ◌⊎◌, ℕ, Bool, true, false, List, [], Option, Some, None, Result, Ok, IfSome, IfErr, OnOk, IsErr, String, string_bytes, slice_get}
use Rattle.std.specs.declared.alloc.Global.{Global}
use Rattle.oci_digest.specs.declared.fault.NoMemory.{NoMemory}
use Rattle.oci_manifest.specs.Descriptor.{Descriptor}
use Rattle.oci_manifest.specs.MediaTypes.{kind_of}
use Rattle.oci_manifest.specs.declared.kind.Kind.TheVariants.{Leaf}
use Rattle.oci_store.specs.Graph.{Node, IsEdge}
use Rattle.oci_store.specs.Keyed.{has_key, first_missing}
use Rattle.oci_store.specs.Push.{IsRaised}
use Rattle.oci_store.specs.State.{State}
use Rattle.oci_layout_store.specs.Meaning.{meaning}
use Rattle.oci_dir.specs.Device.{Device}
use Rattle.oci_layout_store.specs.Entries.{IndexEntry, said, unreadable_places}
use Rattle.oci_layout_store.specs.Layout.{LayoutState, OpenedIndex, manifests_of}
use Rattle.oci_layout_store.specs.Refusal.{IsFirstUnreadable}
use Rattle.oci_layout_store.specs.declared.fault.LayoutFault.{LayoutFault}
use Rattle.oci_layout_store.specs.declared.fault.LayoutFault.TheVariants as layout
use Rattle.oci_prune.specs.Aside.{IsAsideFault}
use Rattle.oci_prune.specs.Belongs.{Belongs, IsUnknown}
use Rattle.oci_prune.specs.Plan.{RefersIf}
use Rattle.oci_prune.specs.Subjects.{IsSubjectFault}
use Rattle.oci_prune_fault.specs.declared.fault.PruneFault.{PruneFault}
use Rattle.oci_prune_fault.specs.declared.fault.PruneFault.TheVariants as fault

-- why it is not known which keys are kept: a needed key is unknown, or a held manifest was to be
-- read and was not
abbrev pub IsKeyFault : State → List Descriptor → Bool → PruneFault → Type 0
IsKeyFault store roots keeps (fault.Unknown k) = store.is_honest → IsUnknown store.nodes roots (RefersIf keeps store) k
IsKeyFault store roots keeps e = IsSubjectFault store (λ k. (keeps ≡ true) × (has_key store.nodes k ≡ true)) e

-- a key is unknown for this cause, or memory ran out
abbrev pub IsUnknownFault : (Descriptor → Type 0) → PruneFault → Type 0
IsUnknownFault is_cause (fault.Unknown k) = is_cause k
IsUnknownFault is_cause fault.Memory = Unit {0}
IsUnknownFault is_cause other = ⊥

-- the device failed for this cause, or memory ran out
abbrev pub IsDeviceFault : Type 0 → PruneFault → Type 0
IsDeviceFault cause (fault.Layout layout.Device) = cause
IsDeviceFault cause fault.Memory = Unit {0}
IsDeviceFault cause other = ⊥

-- a folder of blobs is a link, or that could not be found out
abbrev pub IsLinkFault : Device → PruneFault → Type 0
IsLinkFault dir (fault.LinkedBlobs path) = dir.link ≡ Some path.now
IsLinkFault dir e = IsDeviceFault (dir.fails_reads ≡ true) e

-- the first of these entries that is no descriptor is refused, or memory ran out
abbrev pub IsEntryFault : List IndexEntry → PruneFault → Type 0
IsEntryFault entries (fault.Layout e) = IsFirstUnreadable entries e
IsEntryFault entries fault.Memory = Unit {0}
IsEntryFault entries other = ⊥

-- a layout passes if it has no absent entry, holds its damaged manifests, and each entry of its index
-- is a descriptor; its first absent entry is refused, and if there is none, the first damaged manifest
-- that it does not hold, and if there is none either, the first entry that is no descriptor
pub record ChecksWhole {T : Type 0} (graph : List Node) (opened : OpenedIndex) (answer : Result T PruneFault) : Type 0 where
  pub whole : OnOk answer (opened.absent ≡ [])
  pub sound : OnOk answer (first_missing graph (manifests_of opened.damaged) ≡ None)
  pub readable : OnOk answer (unreadable_places (said opened.content).entries ≡ [])
  pub first : opened.absent ≢ [] → IfErr answer (IsUnknownFault (λ k. slice_get opened.absent 0 ≡ Some k))
  pub second : opened.absent ≡ [] → first_missing graph (manifests_of opened.damaged) ≢ None → IfErr answer (IsUnknownFault (λ k. first_missing graph (manifests_of opened.damaged) ≡ Some k))
  pub third : opened.absent ≡ [] → first_missing graph (manifests_of opened.damaged) ≡ None → unreadable_places (said opened.content).entries ≢ [] → IfErr answer (IsEntryFault (said opened.content).entries)

-- the key is the first absent entry of a layout; or there is none, and the key is the first damaged
-- manifest that is not held
abbrev pub IsFirstUnheld : List Node → OpenedIndex → Descriptor → Type 0
IsFirstUnheld graph opened k =
    (slice_get opened.absent 0 ≡ Some k) ⊎ ((opened.absent ≡ []) × (first_missing graph (manifests_of opened.damaged) ≡ Some k))

-- why a layout is not pruned before anything is read: its first absent entry, or else its first
-- damaged manifest, or else its first entry that is no descriptor, a link, or a fault of a read
abbrev pub IsCheckFault : Device → List Node → OpenedIndex → PruneFault → Type 0
IsCheckFault dir graph opened (fault.Unknown k) = IsFirstUnheld graph opened k
IsCheckFault dir graph opened (fault.LinkedBlobs path) = dir.is_honest → dir.link ≡ Some path.now
IsCheckFault dir graph opened (fault.Layout (layout.BadIndex e)) = IsFirstUnreadable (said opened.content).entries (layout.BadIndex e)
IsCheckFault dir graph opened e = IsDeviceFault (dir.fails_reads ≡ true) e

-- the key is held, and it is kept by a prune from these roots
abbrev pub IsKeptKey : State → List Descriptor → Bool → Descriptor → Type 0
IsKeptKey store roots keeps k = (has_key store.nodes k ≡ true) × ((keeps ≡ true → store.is_honest) → Belongs store.nodes roots (RefersIf keeps store) k)

-- why a held manifest was to be read and was not: for its subject, or, if it is kept, for its layers that
-- are not distributed
abbrev pub IsReadFault : State → List Descriptor → Bool → PruneFault → Type 0
IsReadFault store roots keeps e = IsSubjectFault store (λ k. (keeps ≡ true) × (has_key store.nodes k ≡ true)) e ⊎ IsAsideFault store (IsKeptKey store roots keeps) e

-- why there is no plan of a prune from these roots for a store, which a layout is or will be that was
-- opened from this index; its files are in a directory
abbrev pub IsFaultAfter : Device → OpenedIndex → State → List Descriptor → Bool → PruneFault → Type 0
IsFaultAfter dir opened after roots keeps (fault.Fetch k e) = IsReadFault after roots keeps (fault.Fetch k e)
IsFaultAfter dir opened after roots keeps (fault.Unknown k) =
    IsFirstUnheld after.nodes opened k ⊎ (after.is_honest → IsUnknown after.nodes roots (RefersIf keeps after) k)
IsFaultAfter dir opened after roots keeps (fault.LinkedBlobs path) = dir.is_honest → dir.link ≡ Some path.now
IsFaultAfter dir opened after roots keeps (fault.Layout layout.Device) = dir.fails_reads ≡ true
IsFaultAfter dir opened after roots keeps (fault.Layout (layout.BadIndex e)) = IsFirstUnreadable (said opened.content).entries (layout.BadIndex e)
IsFaultAfter dir opened after roots keeps (fault.Layout (layout.BadManifest k e)) = IsReadFault after roots keeps (fault.Layout (layout.BadManifest k e))
IsFaultAfter dir opened after roots keeps fault.Memory = Unit {0}
IsFaultAfter dir opened after roots keeps other = ⊥

-- a layout has no tag, or that was not found out
abbrev pub IsUntaggedFault : Device → PruneFault → Type 0
IsUntaggedFault dir fault.NoTags = Unit {0}
IsUntaggedFault dir e = IsDeviceFault (dir.fails_reads ≡ true) e

-- why there is no plan of a prune from these roots for a layout in a directory
abbrev pub IsPlanFaultFrom : {D : Type 0} → Device → LayoutState D → List Descriptor → Bool → PruneFault → Type 0
IsPlanFaultFrom dir l roots keeps fault.NoTags = l.tags ≡ []
IsPlanFaultFrom dir l roots keeps e = IsFaultAfter dir l.opened (meaning dir l.graph l.tags) roots keeps e

-- a held key lists this key, which is not held and is of a manifest kind
abbrev pub IsUnknownListed : List Node → Descriptor → Type 0
IsUnknownListed graph k = (from : Descriptor) × IsEdge graph from k × (has_key graph k ≡ false) × (kind_of k.media_type ≢ Leaf)

-- why there is no plan of a prune that keeps each held key of a layout in a directory
abbrev pub IsHeldPlanFault : {D : Type 0} → Device → LayoutState D → PruneFault → Type 0
IsHeldPlanFault dir l (fault.Unknown k) = IsFirstUnheld l.graph l.opened k ⊎ (dir.is_honest → IsUnknownListed l.graph k)
IsHeldPlanFault dir l (fault.Fetch k e) = IsAsideFault (meaning dir l.graph l.tags) (λ other. has_key l.graph other ≡ true) (fault.Fetch k e)
IsHeldPlanFault dir l (fault.Layout (layout.BadManifest k e)) = IsAsideFault (meaning dir l.graph l.tags) (λ other. has_key l.graph other ≡ true) (fault.Layout (layout.BadManifest k e))
IsHeldPlanFault dir l e = IsCheckFault dir l.graph l.opened e

-- a save may fail: reads may fail, or a put failed
abbrev pub MayNotSave : Device → Device → Type 0
MayNotSave old new = (old.fails_reads ≡ true) ⊎ IsRaised old.failures new.failures

-- why a file at one of these paths was not removed: removals may fail, or memory ran out
abbrev pub IsRemovalFault : Device → (List ℕ → Type 0) → PruneFault → Type 0
IsRemovalFault dir is_one (fault.NotRemoved path) = (dir.fails_reads ≡ true) × is_one (string_bytes path)
IsRemovalFault dir is_one fault.Memory = Unit {0}
IsRemovalFault dir is_one other = ⊥

-- the first fault of removals of files at these paths is kept
pub record Notes (dir : Device) (is_one : List ℕ → Type 0) (old new : Option PruneFault) : Type 0 where
  -- a fault that was noted stays
  pub first : IfSome old (λ e. new ≡ Some e)
  -- a fault that is noted was noted before, or is that of a removal
  pub cause : IfSome new (λ e. (old ≡ Some e) ⊎ IsRemovalFault dir is_one e)

-- the fault of a removal that this fault of the layout refused; the path is copied for it
abbrev pub IsNotRemoved : Result (String Global) NoMemory → LayoutFault → PruneFault → Type 0
IsNotRemoved path cause (fault.NotRemoved named) = (path ≡ Ok named) × (cause ≢ layout.Memory)
IsNotRemoved path cause fault.Memory = (cause ≡ layout.Memory) ⊎ IsErr path
IsNotRemoved path cause other = ⊥
