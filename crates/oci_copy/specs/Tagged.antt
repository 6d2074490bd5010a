-- Copies by reference: the root that a reference resolves to, and the tag that is set.
use Rattle.std.specs.Prelude.{◌≡◌, ◌≢◌, ℕ, ◌==◌, true, length, ◌⊎◌, List, [], ◌∷◌, if◌then◌else◌, Result, IfOk, OnErr, IfErr}
use Rattle.std.specs.Map.{keys_of}
use Rattle.oci_manifest.specs.Descriptor.{Descriptor}
use Rattle.oci_store.specs.Keyed.{has_key}
use Rattle.oci_store.specs.State.{State}
use Rattle.oci_store.specs.Tags.{Resolves, set_tag}
use Rattle.oci_store.specs.declared.fault.RefFault.TheVariants as reference
use Rattle.oci_copy.specs.Fault.{IsEarly}
use Rattle.oci_copy.specs.declared.fault.CopyFault.{CopyFault}
use Rattle.oci_copy.specs.declared.fault.CopyFault.TheVariants as fault
use Rattle.oci_copy.specs.declared.report.Report.{Report}

-- the tag that a copy sets: the destination's reference, or the source's if that is empty
abbrev pub name_of : List ℕ → List ℕ → List ℕ
name_of source_reference destination_reference = if length destination_reference == 0 then source_reference else destination_reference

-- the reference resolves to the key in the store
abbrev pub ResolvesIn : State → List ℕ → Descriptor → Type 0
ResolvesIn store name k = Resolves (keys_of store.nodes) store.tags name k

-- there is no root yet, or it is the key that the reference resolves to
abbrev pub IsRootOf : State → List ℕ → List Descriptor → Type 0
IsRootOf store name roots = (roots ≡ []) ⊎ ((k : Descriptor) × (roots ≡ k ∷ []) × ResolvesIn store name k)

-- why a copy by reference is refused: a memory error; or the source's reference is empty; or it is
-- not empty and resolves to no key; or it resolves to a key, and the copy from that key has this
-- cause
abbrev pub RefusedByReference : State → List ℕ → (Descriptor → CopyFault → Type 0) → CopyFault → Type 0
RefusedByReference store name cause e = (e ≡ fault.Memory)
    ⊎ ((e ≡ fault.Reference reference.EmptyReference) × (name ≡ []))
    ⊎ ((e ≡ fault.Reference reference.UnknownReference) × (name ≢ []) × ((k : Descriptor) → ResolvesIn store name k → ⊥))
    ⊎ ((k : Descriptor) × ResolvesIn store name k × cause k e)

-- the root and the tag of a copy by reference, by its result; `name` is the tag that it sets
pub record IsTagged {D : Type 0} (state : D → State) (source : State) (source_reference name : List ℕ) (opening now : D) (answer : Result (Descriptor × Report) CopyFault) : Type 0 where
  -- the root is the key that the source's reference resolves to; it is held, and tagged
  pub root : IfOk answer (λ it. ResolvesIn source source_reference it.0)
  pub held : IfOk answer (λ it. has_key (state now).nodes it.0 ≡ true)
  pub tagged : IfOk answer (λ it. (state now).tags ≡ set_tag (state opening).tags name it.0)
  -- a refusal sets no tag, and before the first push it changes nothing
  pub untagged : OnErr answer ((state now).tags ≡ (state opening).tags)
  pub unchanged : IfErr answer (λ fault. IsEarly fault → now ≡ opening)
