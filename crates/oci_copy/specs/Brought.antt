-- The push of one planned key: what it needs and what it does.
use Rattle.std.specs.Prelude.{◌≡◌, ◌⊎◌, ℕ, true, false, List, ◌++◌, ◌∷◌, [], Some, Contains, Result, OnOk, OnErr, IfErr}
use Rattle.std.specs.Map.{keys_of}
use Rattle.oci_manifest.specs.Descriptor.{Descriptor}
use Rattle.oci_store.specs.Content.{Entry}
use Rattle.oci_store.specs.Keyed.{value_at, has_key, HasAll}
use Rattle.oci_store.specs.Parts.{IsDraftOf, IsLeaf}
use Rattle.oci_store.specs.State.{State}
use Rattle.oci_plan.specs.Visiting.{successors_at}
use Rattle.oci_copy.specs.Cause.{IsTurnCause}
use Rattle.oci_copy.specs.Grown.{graph_of}
use Rattle.oci_copy.specs.Kept.{Keeps}
use Rattle.oci_copy.specs.Planned.{CanBeRead}
use Rattle.oci_copy.specs.declared.fault.CopyFault.{CopyFault}

-- the key can be pushed: the source has it and the destination does not; with an honest source, its
-- bytes read and the destination has all that it lists
pub record CanBring (source now : State) (k : Descriptor) : Type 0 where
  pub there : has_key source.entries k ≡ true
  pub fresh : has_key now.nodes k ≡ false
  pub reads : source.is_honest → CanBeRead source.entries k
  pub ready : source.is_honest → HasAll now.nodes (successors_at (graph_of source) k)

-- the source has the key and may refuse it
pub record MayBeRefused (source : State) (k : Descriptor) : Type 0 where
  pub there : has_key source.entries k ≡ true
  pub fails : source.fails_at k ≡ true

-- the key can be pushed part by part: it lists nothing, and the source may refuse it
pub record CanBringByParts (source now : State) (k : Descriptor) : Type 0 where
  pub leaf : IsLeaf k
  pub fails : source.fails_at k ≡ true
  pub can : CanBring source now k

-- a write of the draft failed, or the draft has bytes that match the key; with an honest source,
-- they are the source's
abbrev pub IsDrafted : Type 0 → (List ℕ → Type 0) → State → Descriptor → Type 0
IsDrafted lost drafted source k = lost ⊎ ((bytes : List ℕ) × IsDraftOf drafted k source.is_honest (value_at source.entries k) bytes)

-- content of a planned key; with an honest source, its bytes are the source's
pub record IsPlannedContent (source : State) (keys : List Descriptor) (k : Descriptor) (content : Entry) : Type 0 where
  pub same : content.0 ≡ k
  pub planned : Contains keys k
  pub own : source.is_honest → value_at source.entries k ≡ Some content.1

-- a draft of a planned key that lists nothing
pub record IsPlannedDraft (lost : Type 0) (drafted : List ℕ → Type 0) (source : State) (keys : List Descriptor) (k : Descriptor) : Type 0 where
  pub planned : Contains keys k
  pub leaf : IsLeaf k
  pub own : IsDrafted lost drafted source k

-- the effect of a push of the key on a destination with these states, by its result
pub record IsBrought {X D : Type 0} (state : D → State) (shares : Type 0) (source old new : State) (k : Descriptor) (answer : Result X CopyFault) : Type 0 where
  -- a pushed key comes after the others; a refused push leaves them unchanged, and has a cause
  pub pushed : OnOk answer (keys_of new.nodes ≡ keys_of old.nodes ++ k ∷ [])
  pub refused : OnErr answer (new.nodes ≡ old.nodes)
  pub cause : IfErr answer (IsTurnCause new source old k)
  -- a successful push halts nothing
  pub running : OnOk answer (new.is_halted → old.is_halted)
  -- whatever the result, it keeps what a run of planned pushes keeps
  pub keeps : (planned : List Descriptor) (opening : D) → Contains planned k → Keeps shares source planned (state opening) old → Keeps shares source planned (state opening) new
