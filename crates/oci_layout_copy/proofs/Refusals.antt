-- Why a mirror is refused.
use Rattle.std.proofs.Common.{◌≡◌, ◌⊎◌, inl, inr, ℕ, Bool, not, List, Option, Result, Ok, Err, sym, subst, ◌∙◌, arith}
use Rattle.std.specs.Prelude.{◌≤◌, IsOk, IfErr, OnErr, OnOk}
use Rattle.oci_manifest.specs.Descriptor.{Descriptor}
use Rattle.oci_copy.specs.Cause.{IsAnswerByWorkers, RefusedByWorkers}
use Rattle.oci_copy.specs.declared.fault.CopyFault.{CopyFault}
use Rattle.oci_copy.specs.declared.fault.CopyFault.TheVariants as copy
use Rattle.oci_dir.specs.Device.{Device}
use Rattle.oci_layout_store.specs.Layout.{LayoutState}
use Rattle.oci_layout_store.specs.Refusal.{IsSettledFault}
use Rattle.oci_layout_store.specs.declared.fault.LayoutFault.{LayoutFault}
use Rattle.oci_layout_store.specs.declared.fault.LayoutFault.TheVariants as layout
use Rattle.oci_program.specs.SeenIndex.{OrOtherIndex}
use Rattle.oci_program.specs.declared.fault.ProgramFault.{ProgramFault}
use Rattle.oci_program.specs.declared.fault.ProgramFault.TheVariants as program
use Rattle.oci_prune.specs.Plan.{roots_with}
use Rattle.oci_prune.specs.Refusal.{IsDeviceFault, IsPlanFaultFrom, MayNotSave}
use Rattle.oci_prune_fault.specs.declared.fault.PruneFault.{PruneFault}
use Rattle.oci_prune_fault.specs.declared.fault.PruneFault.TheVariants as prune
use Rattle.oci_layout_copy.specs.Mirror.{of_prune, IsRefusedMirror}
use Rattle.oci_layout_copy.specs.Refusal.{AfterRefusedCopy}
use Rattle.oci_layout_copy.proofs.Saved.{refused_with}

module _ {D : Type 0} (cause : CopyFault → Type 0) (is_exact : Bool) (roots : List Descriptor) (start : ℕ) where
  -- a plan that is refused is a cause
  pub plan_refused : (dir : Device) (l : LayoutState D) (e : PruneFault) → IsPlanFaultFrom dir l (roots_with l roots) (not is_exact) e → IsRefusedMirror cause is_exact roots start dir l (of_prune e)
  plan_refused dir l (prune.NotRemoved path) h = h
  plan_refused dir l (prune.Fetch k e) h = h
  plan_refused dir l (prune.Layout e) h = inr h
  plan_refused dir l prune.Memory h = h
  plan_refused dir l (prune.Unknown k) h = h
  plan_refused dir l prune.NoTags h = h
  plan_refused dir l (prune.LinkedBlobs path) h = h

  device_refused : (old dir : Device) (l : LayoutState D) → start ≤ old.failures → dir.fails_reads ≡ old.fails_reads → (e : LayoutFault) → IsDeviceFault (MayNotSave old dir) (prune.Layout e) → IsRefusedMirror cause is_exact roots start dir l (program.Destination e)
  device_refused old dir l since reads layout.Device (inl may) = inr (reads ∙ may)
  device_refused old dir l since reads layout.Device (inr raised) = inl (old.failures, since, raised)
  device_refused old dir l since reads layout.NoLayoutFile h = absurd h
  device_refused old dir l since reads layout.BadLayoutFile h = absurd h
  device_refused old dir l since reads layout.BadVersion h = absurd h
  device_refused old dir l since reads (layout.BadIndex e) h = absurd h
  device_refused old dir l since reads (layout.Corrupt k) h = absurd h
  device_refused old dir l since reads layout.Memory h = absurd h
  device_refused old dir l since reads (layout.BadManifest k e) h = absurd h
  device_refused old dir l since reads layout.AlreadyLayout h = absurd h

  -- a save that waits for the disk is refused for a cause
  pub settled_refused : (old dir : Device) (l : LayoutState D) → start ≤ old.failures → dir.fails_reads ≡ old.fails_reads → (e : LayoutFault) → IsSettledFault old dir e → IsRefusedMirror cause is_exact roots start dir l (program.Destination e)
  settled_refused old dir l since reads layout.Device (inl is) = inr (reads ∙ is.0)
  settled_refused old dir l since reads layout.Device (inr raised) = inl (old.failures, since, raised)
  settled_refused old dir l since reads layout.Memory h = inl (old.failures, since, tt)
  settled_refused old dir l since reads layout.NoLayoutFile h = absurd h
  settled_refused old dir l since reads layout.BadLayoutFile h = absurd h
  settled_refused old dir l since reads layout.BadVersion h = absurd h
  settled_refused old dir l since reads (layout.BadIndex e) h = absurd h
  settled_refused old dir l since reads (layout.Corrupt k) h = absurd h
  settled_refused old dir l since reads (layout.BadManifest k e) h = absurd h
  settled_refused old dir l since reads layout.AlreadyLayout h = absurd h

  -- a prune that does not save the layout is a cause
  pub prune_refused : (old dir : Device) (l : LayoutState D) → start ≤ old.failures → dir.fails_reads ≡ old.fails_reads → (e : PruneFault) → IsDeviceFault (MayNotSave old dir) e → IsRefusedMirror cause is_exact roots start dir l (of_prune e)
  prune_refused old dir l since reads (prune.NotRemoved path) h = absurd h
  prune_refused old dir l since reads (prune.Fetch k e) h = absurd h
  prune_refused old dir l since reads (prune.Layout e) h = device_refused old dir l since reads e h
  prune_refused old dir l since reads prune.Memory h = tt
  prune_refused old dir l since reads (prune.Unknown k) h = absurd h
  prune_refused old dir l since reads prune.NoTags h = absurd h
  prune_refused old dir l since reads (prune.LinkedBlobs path) h = absurd h

  -- a cause of the clean-up is one of the mirror, which began before it
  pub cleaned_refused : (other : CopyFault → Type 0) → ((e : CopyFault) → cause e → other e) → (first : ℕ) → first ≤ start → (dir : Device) (l : LayoutState D) (e : ProgramFault) → IsRefusedMirror cause is_exact roots start dir l e
      → IsRefusedMirror other is_exact roots first dir l e
  cleaned_refused other gives first before dir l (program.Copy e) h = gives e h
  cleaned_refused other gives first before dir l (program.Destination e) (inl put) = inl (put.0, (let since = put.1 in omega arith), put.2)
  cleaned_refused other gives first before dir l (program.Destination e) (inr plan) = inr plan
  cleaned_refused other gives first before dir l (program.Prune e) h = h
  cleaned_refused other gives first before dir l program.Memory h = h
  cleaned_refused other gives first before dir l e h = absurd h

-- a copy by workers and its clean-up are refused for a cause of the copy, or for one of the clean-up
pub mirror_refused : {D X Y : Type 0} (workers : ℕ) (cause : CopyFault → Type 0) → cause copy.Memory → (copied : Result X CopyFault) → IsAnswerByWorkers workers cause copied
    → (is_exact : Bool) (roots : List Descriptor) (first start : ℕ) → first ≤ start → (dir : Device) (l : LayoutState D) (answer : Result Y ProgramFault)
    → IfErr answer (IsRefusedMirror (λ e. (copied ≡ Err e) ⊎ (IsOk copied × (e ≡ copy.Memory))) is_exact roots start dir l)
    → IfErr answer (IsRefusedMirror (RefusedByWorkers workers cause) is_exact roots first dir l)
mirror_refused workers cause memory copied answers is_exact roots first start before dir l (Ok y) is = is
mirror_refused workers cause memory copied answers is_exact roots first start before dir l (Err e) is =
    cleaned_refused (λ e. (copied ≡ Err e) ⊎ (IsOk copied × (e ≡ copy.Memory))) is_exact roots start (RefusedByWorkers workers cause) (refused_with workers cause memory copied answers) first before dir l e is

-- what holds after a refused copy holds unless memory ran out
after_copy : (holds : Type 0) (e : CopyFault) → holds → AfterRefusedCopy holds (program.Copy e)
after_copy holds copy.Memory is = tt
after_copy holds e is = is

refused_there : {X : Type 0} (holds : Type 0) (copied : Result X CopyFault) (e : CopyFault) → (copied ≡ Err e) ⊎ (IsOk copied × (e ≡ copy.Memory)) → OnErr copied holds → AfterRefusedCopy holds (program.Copy e)
refused_there holds copied e (inl same) there = after_copy holds e (subst (λ r. OnErr r holds) same there)
refused_there holds copied e (inr it) there = subst (λ (x : CopyFault). AfterRefusedCopy holds (program.Copy x)) (sym it.1) tt

-- what a refused copy leaves is left after a mirror whose copy was refused
pub after_refused : {D X Y : Type 0} (holds : Type 0) (copied : Result X CopyFault) (is_exact : Bool) (roots : List Descriptor) (start : ℕ) (dir : Device) (seen : Option (List ℕ)) (l : LayoutState D) (answer : Result Y ProgramFault)
    → IfErr answer (OrOtherIndex dir seen (IsRefusedMirror (λ e. (copied ≡ Err e) ⊎ (IsOk copied × (e ≡ copy.Memory))) is_exact roots start dir l)) → OnErr copied holds → IfErr answer (AfterRefusedCopy holds)
after_refused holds copied is_exact roots start dir seen l (Ok y) is there = is
after_refused holds copied is_exact roots start dir seen l (Err (program.Copy e)) is there = refused_there holds copied e is there
after_refused holds copied is_exact roots start dir seen l (Err e) is there = tt

-- ---- a prune by its save

pub on_saved : {P : Type 0} (saved : Result Unit PruneFault) → OnOk saved P → IsOk saved → P
on_saved (Ok u) holds is = holds
on_saved (Err e) holds is = cc is

pub on_error : {P : Type 0} (saved : Result Unit PruneFault) (e : PruneFault) → OnErr saved P → saved ≡ Err e → P
on_error {P} saved e holds is = subst (λ (r : Result Unit PruneFault). OnErr r P) is holds

pub if_error : (saved : Result Unit PruneFault) (e : PruneFault) (is_so : PruneFault → Type 0) → IfErr saved is_so → saved ≡ Err e → is_so e
if_error saved e is_so holds is = subst (λ (r : Result Unit PruneFault). IfErr r is_so) is holds
