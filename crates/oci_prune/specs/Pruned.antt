-- What a prune leaves of a layout.
use Rattle.std.specs.Prelude.{◌≡◌, ◌≢◌, ◌↔◌, ◌⊎◌, ℕ, Bool, true, false, not, List, [], ◌∷◌, filter, take, slice_get, Option, Some, None, is_some, IsSome, Contains, Result, IfOk, OnOk, if◌then◌else◌}
use Rattle.std.specs.BTreeSet.{BTreeSet, contains}
use Rattle.std.specs.List.{All}
use Rattle.std.specs.Map.{keys_of}
use Rattle.oci_digest.specs.Digest.{IsDigest}
use Rattle.oci_manifest.specs.Descriptor.{Descriptor, key_cmp}
use Rattle.oci_store.specs.Content.{Entry}
use Rattle.oci_store.specs.Graph.{Node, Reaches}
use Rattle.oci_store.specs.Keyed.{value_at, has_key}
use Rattle.oci_layout_store.specs.Blobs.{blob_path, stored, IsSound}
use Rattle.oci_layout_store.specs.Keeps.{KeepsSettled}
use Rattle.oci_dir.specs.Device.{Device, File, Same}
use Rattle.oci_layout_store.specs.Index.{index_file, HasIndex}
use Rattle.oci_layout_store.specs.Layout.{LayoutState, SameMemory}
use Rattle.oci_dir.specs.Prunable.{by_name, Removes}
use Rattle.oci_prune.specs.Plan.{NeedsFile}
use Rattle.oci_prune.specs.Refusal.{Notes}
use Rattle.oci_prune_fault.specs.declared.fault.PruneFault.{PruneFault}
use Rattle.oci_prune.specs.declared.plan.PrunedFile.{PrunedFile}
use Rattle.oci_prune.specs.declared.plan.PrunePlan.{PrunePlan}
use Rattle.oci_prune.specs.declared.run.Pruned.{Pruned}

-- the kept keys of a graph, each with the keys that it lists
abbrev pub kept_of : BTreeSet Descriptor → List Node → List Node
kept_of kept graph = filter (λ (n : Node). contains key_cmp kept n.0) graph

-- what was reached from the roots is held as before, and lists what it listed
abbrev pub KeepsReached : List Node → List Node → List Descriptor → Type 0
KeepsReached old new roots = (k : Descriptor) → Reaches old roots k → value_at new k ≡ value_at old k

-- the path is that of one of these files
abbrev pub IsPathOf : List PrunedFile → List ℕ → Type 0
IsPathOf files path = (f : PrunedFile) × Contains files f × (blob_path f.digest ≡ path)

-- the path is that of one of these files; of one that a held key has if the flag is true, and else of
-- one that none has
abbrev pub IsPathAmong : Bool → List PrunedFile → List ℕ → Type 0
IsPathAmong is_held files path = (f : PrunedFile) × Contains files f × (f.is_held ≡ is_held) × (blob_path f.digest ≡ path)

-- each of these files that a held key has is so if the flag is true, and else each that none has
abbrev pub AllAmong : Bool → (PrunedFile → Type 0) → List PrunedFile → Type 0
AllAmong is_held is_so files = All (λ (f : PrunedFile). f.is_held ≡ is_held → is_so f) files

-- whether the file of a digest is gone
abbrev pub is_gone : File → PrunedFile → Bool
is_gone file f = not (is_some (file (blob_path f.digest)))

-- there is a file of the digest
abbrev pub IsThere : File → PrunedFile → Type 0
IsThere file f = IsSome (file (blob_path f.digest))

-- there is no file of the digest
abbrev pub IsGone : File → PrunedFile → Type 0
IsGone file f = file (blob_path f.digest) ≡ None

-- no key of the graph has the digest
abbrev pub IsOfNoKey : List Node → PrunedFile → Type 0
IsOfNoKey graph f = All (λ (k : Descriptor). k.digest ≢ f.digest) (keys_of graph)

-- no entry has the digest
abbrev pub IsOfNoEntry : List Entry → PrunedFile → Type 0
IsOfNoEntry entries f = All (λ (e : Entry). e.0.digest ≢ f.digest) entries

-- no file of the list has the path of an earlier one
abbrev pub AreApart : List PrunedFile → Type 0
AreApart files = (place : ℕ) (f : PrunedFile) → slice_get files place ≡ Some f → All (λ (earlier : PrunedFile). blob_path earlier.digest ≢ blob_path f.digest) (take place files)

-- the path is that of one of these drafts
abbrev pub IsDraftIn : List (List ℕ × ℕ) → List ℕ → Type 0
IsDraftIn drafts path = (draft : List ℕ × ℕ) × Contains drafts draft × (draft.0 ≡ path)

-- these drafts are gone
abbrev pub AreDraftsGone : File → List (List ℕ × ℕ) → Type 0
AreDraftsGone drafts listed = All (λ (draft : List ℕ × ℕ). drafts draft.0 ≡ None) listed

-- those of a list whose flags are true
abbrev pub flagged : {X : Type 0} → List X → List Bool → List X
flagged [] flags = []
flagged (x ∷ xs) [] = []
flagged (x ∷ xs) (flag ∷ flags) = if flag then x ∷ flagged xs flags else flagged xs flags

-- exactly these drafts went: each was there and is gone, and each other draft is as it was
pub record RemovesDrafts (old new : File) (drafts : List (List ℕ × ℕ)) : Type 0 where
  pub gone : (path : List ℕ) → IsDraftIn drafts path → IsSome (old path) × (new path ≡ None)
  pub other : (path : List ℕ) → (IsDraftIn drafts path → ⊥) → new path ≡ old path

-- if the flag is true, the draft at the path went, and no other changed; if it is false, none changed
abbrev pub RemovesIf : Bool → File → File → List ℕ → Type 0
RemovesIf true old new path = IsSome (old path) × Removes old new path
RemovesIf false old new path = Same old new

-- no digest has a file unless a key of the graph needs it
abbrev pub HasOnlyNeeded : File → List Node → Type 0
HasOnlyNeeded file graph = (digest : List ℕ) → IsDigest digest → (NeedsFile graph (stored file graph) (λ k. has_key graph k ≡ true) digest → ⊥) → file (blob_path digest) ≡ None

-- only files at touched paths changed in a directory, and the contents of a graph stayed
pub record Spares (old new : Device) (graph : List Node) (touched : List ℕ → Type 0) : Type 0 where
  pub other : old.is_honest → (path : List ℕ) → (touched path → ⊥) → new.file path ≡ old.file path
  pub contents : old.is_honest → stored new.file graph ≡ stored old.file graph
  pub sound : IsSound old.is_honest old.file graph → IsSound new.is_honest new.file graph
  pub honest : old.is_honest ↔ new.is_honest
  pub reads : new.fails_reads ≡ old.fails_reads

-- Removals from a layout: of files at the touched paths, which no held key needs, and of drafts. The
-- first fault is kept, and is that of a named path.
pub record Removal {D : Type 0} (device : D → Device) (old new : LayoutState D) (touched named : List ℕ → Type 0) (before after : Option PruneFault) : Type 0 where
  pub memory : SameMemory old new
  pub spared : Spares (device old.dir) (device new.dir) old.graph touched
  pub settled : KeepsSettled (device old.dir) (device new.dir) old.graph
  pub fault : after ≡ None → before ≡ None
  pub notes : Notes (device old.dir) named before after
  pub failures : (device new.dir).failures ≡ (device old.dir).failures

-- no path
abbrev pub IsNone : List ℕ → Type 0
IsNone path = ⊥

-- the path is that of a file or a draft that a plan removes
abbrev pub IsPlanned : PrunePlan → List ℕ → Type 0
IsPlanned plan path = IsPathOf plan.files.items path ⊎ IsDraftIn (by_name plan.drafts.items) path

-- the path is that of a planned file that no held key has, or of a planned draft
abbrev pub IsPlannedUnheld : PrunePlan → List ℕ → Type 0
IsPlannedUnheld plan path = IsPathAmong false plan.files.items path ⊎ IsDraftIn (by_name plan.drafts.items) path

-- the path is that of the index, or of a planned file
abbrev pub IsTouchedBy : PrunePlan → List ℕ → Type 0
IsTouchedBy plan path = (index_file ≡ path) ⊎ IsPathOf plan.files.items path

-- the path is that of the index, or of a planned file that no held key has
abbrev pub IsTouchedUnsaved : PrunePlan → List ℕ → Type 0
IsTouchedUnsaved plan path = (index_file ≡ path) ⊎ IsPathAmong false plan.files.items path

-- ---- the save before the removals

-- a layout has the same tags, and the same keys or the kept ones
pub record StaysOrDrops {D : Type 0} (kept : BTreeSet Descriptor) (old new : LayoutState D) : Type 0 where
  pub either : (new.graph ≡ old.graph) ⊎ (new.graph ≡ kept_of kept old.graph)
  pub tags : new.tags ≡ old.tags
  pub opened : new.opened ≡ old.opened

-- only the index changed in a layout's directory, and the layout is sound if it was
pub record OnlyIndex {D : Type 0} (device : D → Device) (old new : LayoutState D) : Type 0 where
  pub spared : Spares (device old.dir) (device new.dir) new.graph (λ path. index_file ≡ path)
  pub sound : IsSound (device old.dir).is_honest (device old.dir).file old.graph → IsSound (device new.dir).is_honest (device new.dir).file new.graph

-- the kept keys are held and saved, and no draft changed
pub record IsSaved {D : Type 0} (device : D → Device) (old new : LayoutState D) (plan : PrunePlan) : Type 0 where
  pub kept : new.graph ≡ kept_of plan.kept old.graph
  pub index : plan.removed.items ≢ [] → (device old.dir).is_honest → HasIndex (device new.dir).file new.graph new.tags new.opened
  pub failures : (device new.dir).failures ≡ (device old.dir).failures
  pub drafts : (device old.dir).is_honest → Same (device old.dir).draft (device new.dir).draft

-- what holds if a prune was carried out and the index is saved
abbrev pub OnSaved : Result Pruned PruneFault → Type 0 → Type 0
OnSaved answer holds = IfOk answer (λ done. OnOk done.saved holds)
