-- A copy or a mirror that is refused since another program wrote the index.
use Rattle.std.proofs.Common.{inl, inr, ℕ, Bool, List, Option, Result, Ok, Err, refl, arith}
use Rattle.std.specs.Prelude.{IfErr}
use Rattle.oci_manifest.specs.Descriptor.{Descriptor}
use Rattle.oci_copy.specs.declared.fault.CopyFault.{CopyFault}
use Rattle.oci_dir.specs.Device.{Device}
use Rattle.oci_layout_store.specs.Layout.{LayoutState}
use Rattle.oci_layout_store.specs.declared.fault.LayoutFault.TheVariants as layout
use Rattle.oci_program.specs.SeenIndex.{IsSeenFault, OrOtherIndex}
use Rattle.oci_program.specs.declared.fault.ProgramFault.{ProgramFault}
use Rattle.oci_program.specs.declared.fault.ProgramFault.TheVariants as program
use Rattle.oci_layout_copy.specs.Mirror.{IsRefusedMirror}
use Rattle.oci_layout_copy.specs.Refusal.{IsRefusedBetween, IsSaveFault}

module _ (dir : Device) (seen : Option (List ℕ)) where
  -- a cause of a mirror that is not about the index that was seen
  pub mirror_unseen : {D : Type 0} (copy : CopyFault → Type 0) (is_exact : Bool) (roots : List Descriptor) (start : ℕ) (l : LayoutState D) (e : ProgramFault) → IsRefusedMirror copy is_exact roots start dir l e → OrOtherIndex dir seen (IsRefusedMirror copy is_exact roots start dir l) e
  mirror_unseen copy is_exact roots start l program.IndexChanged h = absurd h
  mirror_unseen copy is_exact roots start l e h = h

  -- what a cause gives it gives beside one for the index that was seen
  pub or_else : {P Q : ProgramFault → Type 0} → ((e : ProgramFault) → P e → Q e) → (e : ProgramFault) → OrOtherIndex dir seen P e → OrOtherIndex dir seen Q e
  or_else gives program.IndexChanged h = h
  or_else gives e h = gives e h

  -- what a refusal gives it gives beside one for the index that was seen
  pub or_seen : {Y : Type 0} {P Q : ProgramFault → Type 0} → ((answer : Result Y ProgramFault) → IfErr answer P → IfErr answer Q) → (answer : Result Y ProgramFault) → IfErr answer (OrOtherIndex dir seen P) → IfErr answer (OrOtherIndex dir seen Q)
  or_seen gives (Ok y) is = is
  or_seen gives (Err program.IndexChanged) is = is
  or_seen gives (Err e) is = gives (Err e) is

  -- a look at the index is refused for a cause of a copy, if no put failed meanwhile
  pub between_seen : (copy : CopyFault → Type 0) (failures : ℕ) (e : ProgramFault) → IsSeenFault dir seen e → OrOtherIndex dir seen (IsRefusedBetween copy (IsSaveFault dir.fails_reads failures failures)) e
  between_seen copy failures program.IndexChanged h = h
  between_seen copy failures (program.Destination layout.Device) h = inl (h, refl)
  between_seen copy failures (program.Destination layout.Memory) h = tt
  between_seen copy failures (program.Destination layout.NoLayoutFile) h = absurd h
  between_seen copy failures (program.Destination layout.BadLayoutFile) h = absurd h
  between_seen copy failures (program.Destination layout.BadVersion) h = absurd h
  between_seen copy failures (program.Destination (layout.BadIndex e)) h = absurd h
  between_seen copy failures (program.Destination (layout.Corrupt k)) h = absurd h
  between_seen copy failures (program.Destination (layout.BadManifest k e)) h = absurd h
  between_seen copy failures (program.Destination layout.AlreadyLayout) h = absurd h
  between_seen copy failures e h = absurd h

  -- and for one of a mirror
  pub mirror_seen : {D : Type 0} (copy : CopyFault → Type 0) (is_exact : Bool) (roots : List Descriptor) (start : ℕ) (l : LayoutState D) (e : ProgramFault) → IsSeenFault dir seen e → OrOtherIndex dir seen (IsRefusedMirror copy is_exact roots start dir l) e
  mirror_seen copy is_exact roots start l program.IndexChanged h = h
  mirror_seen copy is_exact roots start l (program.Destination layout.Device) h = inr h
  mirror_seen copy is_exact roots start l (program.Destination layout.Memory) h = inl (start, omega arith, tt)
  mirror_seen copy is_exact roots start l (program.Destination layout.NoLayoutFile) h = absurd h
  mirror_seen copy is_exact roots start l (program.Destination layout.BadLayoutFile) h = absurd h
  mirror_seen copy is_exact roots start l (program.Destination layout.BadVersion) h = absurd h
  mirror_seen copy is_exact roots start l (program.Destination (layout.BadIndex e)) h = absurd h
  mirror_seen copy is_exact roots start l (program.Destination (layout.Corrupt k)) h = absurd h
  mirror_seen copy is_exact roots start l (program.Destination (layout.BadManifest k e)) h = absurd h
  mirror_seen copy is_exact roots start l (program.Destination layout.AlreadyLayout) h = absurd h
  mirror_seen copy is_exact roots start l e h = absurd h
