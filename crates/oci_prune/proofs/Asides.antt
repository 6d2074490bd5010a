-- The layers that manifests list and that are not distributed, from the bytes that were read.
use Rattle.std.proofs.Common.{◌≡◌, Bool, true, ◌⊎◌, inl, inr, ℕ, List, Some, Ok, refl, sym, subst, ◌∙◌}
use Rattle.std.specs.Prelude.{◌↔◌, Contains}
use Rattle.oci_manifest.specs.Descriptor.{Descriptor, Matches}
use Rattle.oci_manifest.specs.Fault.{Fails, not_json, not_object, no_config, bad_list, bad_descriptor}
use Rattle.oci_manifest.specs.MediaTypes.{kind_of}
use Rattle.oci_manifest.specs.Undistributed.{undistributed_of}
use Rattle.oci_manifest.specs.declared.fault.ManifestFault.{ManifestFault}
use Rattle.oci_manifest.specs.declared.fault.ManifestFault.TheVariants as manifest
use Rattle.oci_manifest.proofs.Asides.{aside-sound, aside-complete}
use Rattle.oci_store.specs.Content.{Entry}
use Rattle.oci_store.specs.Keyed.{value_at, has_key}
use Rattle.oci_store.specs.State.{State}
use Rattle.oci_dir.specs.Device.{Device}
use Rattle.oci_layout_store.specs.Layout.{LayoutState, OpenedIndex}
use Rattle.oci_layout_store.specs.Meaning.{meaning}
use Rattle.oci_layout_store.specs.declared.fault.LayoutFault.TheVariants as layout
use Rattle.oci_prune_fault.specs.Faults.{of_manifest}
use Rattle.oci_prune_fault.specs.declared.fault.PruneFault.{PruneFault}
use Rattle.oci_prune_fault.specs.declared.fault.PruneFault.TheVariants as fault
use Rattle.oci_prune.specs.Aside.{IsAsideFault, ListsAside}
use Rattle.oci_prune.specs.Refusal.{IsDeviceFault, IsFaultAfter, IsHeldPlanFault, IsKeptKey, IsKeyFault, IsPlanFaultFrom}

-- ---- one key

-- what was read is what the bytes list
pub aside_exact : (entries : List Entry) (k : Descriptor) (bytes : List ℕ) (keys : List Descriptor) → value_at entries k ≡ Some bytes → undistributed_of (kind_of k.media_type) bytes ≡ Ok keys → (j : Descriptor) → Contains keys j ↔ ListsAside entries k j
aside_exact entries k bytes keys own read j = (
  λ c. (bytes, keys, own, aside-sound (kind_of k.media_type) bytes keys read, c),
  λ lists.
      let same : lists.0 ≡ bytes = cc (sym lists.2 ∙ own) in
      let whole = subst (λ (bs : List ℕ). undistributed_of (kind_of k.media_type) bs ≡ Ok lists.1) same (aside-complete (kind_of k.media_type) lists.0 lists.1 lists.3) in
      let is : lists.1 ≡ keys = cc (sym whole ∙ read) in
      subst (λ (ks : List Descriptor). Contains ks j) is lists.4,
)

-- what could not be read breaks a rule
pub unread_aside : (store : State) (k : Descriptor) (bytes : List ℕ) (e : ManifestFault) → Matches k bytes → (store.is_honest → value_at store.entries k ≡ Some bytes) → Fails e (undistributed_of (kind_of k.media_type) bytes)
    → IsAsideFault store (λ other. other ≡ k) (of_manifest k e)
unread_aside store k bytes manifest.NotJson m own h = (refl, (bytes, not_json, m, own, h, refl))
unread_aside store k bytes manifest.NotObject m own h = (refl, (bytes, not_object, m, own, h, refl))
unread_aside store k bytes manifest.NoConfig m own h = (refl, (bytes, no_config, m, own, h, refl))
unread_aside store k bytes (manifest.BadList member) m own h = (refl, (bytes, bad_list member.now, m, own, h, refl))
unread_aside store k bytes (manifest.BadDescriptor member position) m own h = (refl, (bytes, bad_descriptor member.now position, m, own, h, refl))
unread_aside store k bytes manifest.Memory m own h = tt

-- ---- keys

-- the fault of some keys is one of more keys
pub aside_more : (store : State) (P Q : Descriptor → Type 0) (e : PruneFault) → ((k : Descriptor) → P k → Q k) → IsAsideFault store P e → IsAsideFault store Q e
aside_more store P Q (fault.Fetch k e) more h = (more k h.0, h.1, h.2)
aside_more store P Q (fault.Layout (layout.BadManifest k e)) more h = (more k h.0, h.1)
aside_more store P Q (fault.Layout layout.NoLayoutFile) more h = absurd h
aside_more store P Q (fault.Layout layout.BadLayoutFile) more h = absurd h
aside_more store P Q (fault.Layout layout.BadVersion) more h = absurd h
aside_more store P Q (fault.Layout (layout.BadIndex e)) more h = absurd h
aside_more store P Q (fault.Layout layout.Device) more h = absurd h
aside_more store P Q (fault.Layout (layout.Corrupt k)) more h = absurd h
aside_more store P Q (fault.Layout layout.Memory) more h = absurd h
aside_more store P Q (fault.Layout layout.AlreadyLayout) more h = absurd h
aside_more store P Q fault.Memory more h = tt
aside_more store P Q (fault.NotRemoved path) more h = absurd h
aside_more store P Q (fault.Unknown k) more h = absurd h
aside_more store P Q fault.NoTags more h = absurd h
aside_more store P Q (fault.LinkedBlobs path) more h = absurd h

-- ---- plans

module _ (dir : Device) (opened : OpenedIndex) (store : State) (roots : List Descriptor) (keeps : Bool) where
  -- a fault of the walk to the kept keys is one of the plan
  pub key_fault_after : (e : PruneFault) → IsKeyFault store roots keeps e → IsFaultAfter dir opened store roots keeps e
  key_fault_after (fault.Unknown k) h = inr h
  key_fault_after (fault.Fetch k e) h = inl h
  key_fault_after (fault.Layout (layout.BadManifest k e)) h = inl h
  key_fault_after (fault.Layout layout.NoLayoutFile) h = absurd h
  key_fault_after (fault.Layout layout.BadLayoutFile) h = absurd h
  key_fault_after (fault.Layout layout.BadVersion) h = absurd h
  key_fault_after (fault.Layout (layout.BadIndex e)) h = absurd h
  key_fault_after (fault.Layout layout.Device) h = absurd h
  key_fault_after (fault.Layout (layout.Corrupt k)) h = absurd h
  key_fault_after (fault.Layout layout.Memory) h = absurd h
  key_fault_after (fault.Layout layout.AlreadyLayout) h = absurd h
  key_fault_after fault.Memory h = tt
  key_fault_after (fault.NotRemoved path) h = absurd h
  key_fault_after fault.NoTags h = absurd h
  key_fault_after (fault.LinkedBlobs path) h = absurd h

  -- so is one of a read of the folders
  device_fault_after : (e : PruneFault) → IsDeviceFault (dir.fails_reads ≡ true) e → IsFaultAfter dir opened store roots keeps e
  device_fault_after (fault.Unknown k) h = absurd h
  device_fault_after (fault.Fetch k e) h = absurd h
  device_fault_after (fault.Layout (layout.BadManifest k e)) h = absurd h
  device_fault_after (fault.Layout layout.NoLayoutFile) h = absurd h
  device_fault_after (fault.Layout layout.BadLayoutFile) h = absurd h
  device_fault_after (fault.Layout layout.BadVersion) h = absurd h
  device_fault_after (fault.Layout (layout.BadIndex e)) h = absurd h
  device_fault_after (fault.Layout layout.Device) h = h
  device_fault_after (fault.Layout (layout.Corrupt k)) h = absurd h
  device_fault_after (fault.Layout layout.Memory) h = absurd h
  device_fault_after (fault.Layout layout.AlreadyLayout) h = absurd h
  device_fault_after fault.Memory h = tt
  device_fault_after (fault.NotRemoved path) h = absurd h
  device_fault_after fault.NoTags h = absurd h
  device_fault_after (fault.LinkedBlobs path) h = absurd h

  -- and one of a read of the layers of a kept key
  aside_fault_after : (e : PruneFault) → IsAsideFault store (IsKeptKey store roots keeps) e → IsFaultAfter dir opened store roots keeps e
  aside_fault_after (fault.Unknown k) h = absurd h
  aside_fault_after (fault.Fetch k e) h = inr h
  aside_fault_after (fault.Layout (layout.BadManifest k e)) h = inr h
  aside_fault_after (fault.Layout layout.NoLayoutFile) h = absurd h
  aside_fault_after (fault.Layout layout.BadLayoutFile) h = absurd h
  aside_fault_after (fault.Layout layout.BadVersion) h = absurd h
  aside_fault_after (fault.Layout (layout.BadIndex e)) h = absurd h
  aside_fault_after (fault.Layout layout.Device) h = absurd h
  aside_fault_after (fault.Layout (layout.Corrupt k)) h = absurd h
  aside_fault_after (fault.Layout layout.Memory) h = absurd h
  aside_fault_after (fault.Layout layout.AlreadyLayout) h = absurd h
  aside_fault_after fault.Memory h = tt
  aside_fault_after (fault.NotRemoved path) h = absurd h
  aside_fault_after fault.NoTags h = absurd h
  aside_fault_after (fault.LinkedBlobs path) h = absurd h

  -- so is one of the files that some of the kept keys need
  pub files_fault_after : (P : Descriptor → Type 0) (e : PruneFault) → ((k : Descriptor) → P k → IsKeptKey store roots keeps k) → IsDeviceFault (dir.fails_reads ≡ true) e ⊎ IsAsideFault store P e → IsFaultAfter dir opened store roots keeps e
  files_fault_after P e kept (inl h) = device_fault_after e h
  files_fault_after P e kept (inr h) = aside_fault_after e (aside_more store P (IsKeptKey store roots keeps) e kept h)

-- a fault of the plan for a store is one of the plan for a layout that means it
pub plan_fault_from : {D : Type 0} (dir : Device) (l : LayoutState D) (roots : List Descriptor) (keeps : Bool) (e : PruneFault) → IsFaultAfter dir l.opened (meaning dir l.graph l.tags) roots keeps e → IsPlanFaultFrom dir l roots keeps e
plan_fault_from dir l roots keeps (fault.Unknown k) h = h
plan_fault_from dir l roots keeps (fault.Fetch k e) h = h
plan_fault_from dir l roots keeps (fault.Layout e) h = h
plan_fault_from dir l roots keeps fault.Memory h = h
plan_fault_from dir l roots keeps (fault.NotRemoved path) h = h
plan_fault_from dir l roots keeps fault.NoTags h = absurd h
plan_fault_from dir l roots keeps (fault.LinkedBlobs path) h = h

-- ---- the plan that keeps each held key

held_device : {D : Type 0} (dir : Device) (l : LayoutState D) (e : PruneFault) → IsDeviceFault (dir.fails_reads ≡ true) e → IsHeldPlanFault dir l e
held_device dir l (fault.Unknown k) h = absurd h
held_device dir l (fault.Fetch k e) h = absurd h
held_device dir l (fault.Layout (layout.BadManifest k e)) h = absurd h
held_device dir l (fault.Layout layout.NoLayoutFile) h = absurd h
held_device dir l (fault.Layout layout.BadLayoutFile) h = absurd h
held_device dir l (fault.Layout layout.BadVersion) h = absurd h
held_device dir l (fault.Layout (layout.BadIndex e)) h = absurd h
held_device dir l (fault.Layout layout.Device) h = h
held_device dir l (fault.Layout (layout.Corrupt k)) h = absurd h
held_device dir l (fault.Layout layout.Memory) h = absurd h
held_device dir l (fault.Layout layout.AlreadyLayout) h = absurd h
held_device dir l fault.Memory h = tt
held_device dir l (fault.NotRemoved path) h = absurd h
held_device dir l fault.NoTags h = absurd h
held_device dir l (fault.LinkedBlobs path) h = absurd h

held_aside : {D : Type 0} (dir : Device) (l : LayoutState D) (e : PruneFault) → IsAsideFault (meaning dir l.graph l.tags) (λ k. has_key l.graph k ≡ true) e → IsHeldPlanFault dir l e
held_aside dir l (fault.Unknown k) h = absurd h
held_aside dir l (fault.Fetch k e) h = h
held_aside dir l (fault.Layout (layout.BadManifest k e)) h = h
held_aside dir l (fault.Layout layout.NoLayoutFile) h = absurd h
held_aside dir l (fault.Layout layout.BadLayoutFile) h = absurd h
held_aside dir l (fault.Layout layout.BadVersion) h = absurd h
held_aside dir l (fault.Layout (layout.BadIndex e)) h = absurd h
held_aside dir l (fault.Layout layout.Device) h = absurd h
held_aside dir l (fault.Layout (layout.Corrupt k)) h = absurd h
held_aside dir l (fault.Layout layout.Memory) h = absurd h
held_aside dir l (fault.Layout layout.AlreadyLayout) h = absurd h
held_aside dir l fault.Memory h = tt
held_aside dir l (fault.NotRemoved path) h = absurd h
held_aside dir l fault.NoTags h = absurd h
held_aside dir l (fault.LinkedBlobs path) h = absurd h

-- a fault of the files that some held keys need is one of the plan
pub files_fault_held : {D : Type 0} (dir : Device) (l : LayoutState D) (P : Descriptor → Type 0) (e : PruneFault) → ((k : Descriptor) → P k → has_key l.graph k ≡ true) → IsDeviceFault (dir.fails_reads ≡ true) e ⊎ IsAsideFault (meaning dir l.graph l.tags) P e → IsHeldPlanFault dir l e
files_fault_held dir l P e held (inl h) = held_device dir l e h
files_fault_held dir l P e held (inr h) = held_aside dir l e (aside_more (meaning dir l.graph l.tags) P (λ k. has_key l.graph k ≡ true) e held h)
