-- What a prune keeps and removes.
use Rattle.std.specs.Prelude.{◌≡◌, ◌≢◌, ◌↔◌, ◌⊎◌, ℕ, Bool, true, false, List, [], ◌++◌, map, Contains, IsTrue}
use Rattle.std.specs.BTreeSet.{BTreeSet, contains}
use Rattle.std.specs.Cmp.Lexicographic.{slice_cmp}
use Rattle.std.specs.List.{All}
use Rattle.std.specs.List.Sorted.{IsStrictlySortedBy}
use Rattle.std.specs.Map.{values_of}
use Rattle.std.specs.Ordering.{nat_cmp}
use Rattle.oci_digest.specs.Digest.{IsDigest}
use Rattle.oci_manifest.specs.Descriptor.{Descriptor, key_cmp}
use Rattle.oci_manifest.specs.MediaTypes.{kind_of}
use Rattle.oci_manifest.specs.declared.kind.Kind.TheVariants.{Leaf}
use Rattle.oci_store.specs.Content.{Entry}
use Rattle.oci_store.specs.Graph.{Node, IsEdge, Reaches}
use Rattle.oci_store.specs.Keyed.{has_key}
use Rattle.oci_store.specs.State.{State}
use Rattle.oci_layout_store.specs.Blobs.{blob_path, stored}
use Rattle.oci_dir.specs.Device.{Device, File}
use Rattle.oci_layout_store.specs.Layout.{LayoutState}
use Rattle.oci_dir.specs.Prunable.{HasLength, ListsFiles, by_name}
use Rattle.oci_layout_store.specs.Saved.{shadowed_keys}
use Rattle.oci_prune.specs.Aside.{Lists}
use Rattle.oci_prune.specs.Belongs.{AllKnown, AreMembers}
use Rattle.oci_prune.specs.Subjects.{Refers}
use Rattle.oci_prune.specs.declared.plan.PrunedFile.{PrunedFile}
use Rattle.oci_prune.specs.declared.plan.PrunePlan.{PrunePlan}

-- the keys of a graph, in key order
pub record AreHeld (graph : List Node) (keys : List Descriptor) : Type 0 where
  pub each : (k : Descriptor) → Contains keys k ↔ (has_key graph k ≡ true)
  pub order : IsStrictlySortedBy key_cmp keys

-- the keys that a prune starts from: those of the tags, and those of the entries that a tag hides
abbrev pub roots_of : {D : Type 0} → LayoutState D → List Descriptor
roots_of layout = values_of layout.tags ++ shadowed_keys layout.opened layout.graph layout.tags

-- the keys that a prune starts from that also keeps these keys
abbrev pub roots_with : {D : Type 0} → LayoutState D → List Descriptor → List Descriptor
roots_with layout keys = keys ++ roots_of layout

-- the first key is held and refers to the second; never, if referrers are left out
abbrev pub RefersIf : Bool → State → Descriptor → Descriptor → Type 0
RefersIf true store referrer subject = Refers store.entries referrer subject
RefersIf false store referrer subject = ⊥

-- the kept keys are those that belong to the roots
abbrev pub AreKept : List Node → List Descriptor → (Descriptor → Descriptor → Type 0) → BTreeSet Descriptor → Type 0
AreKept graph roots refers kept = AreMembers graph roots refers kept

-- the kept keys are held, and each held key is kept that is a root, that a root reaches or that a kept
-- key lists
pub record IsSafe (graph : List Node) (roots : List Descriptor) (kept : BTreeSet Descriptor) : Type 0 where
  pub held : (k : Descriptor) → contains key_cmp kept k ≡ true → has_key graph k ≡ true
  pub reached : (k : Descriptor) → Reaches graph roots k → has_key graph k ≡ true → contains key_cmp kept k ≡ true
  pub closed : (from to : Descriptor) → contains key_cmp kept from ≡ true → IsEdge graph from to → has_key graph to ≡ true → contains key_cmp kept to ≡ true

-- the held keys that are not kept, in key order
pub record AreRemoved (graph : List Node) (kept : BTreeSet Descriptor) (removed : List Descriptor) : Type 0 where
  pub each : (k : Descriptor) → Contains removed k ↔ ((has_key graph k ≡ true) × (contains key_cmp kept k ≡ false))
  pub order : IsStrictlySortedBy key_cmp removed

-- a key of the set has the digest
abbrev pub HasDigestIn : (Descriptor → Type 0) → List ℕ → Type 0
HasDigestIn is_one digest = (k : Descriptor) × is_one k × (k.digest ≡ digest)

-- one of these keys needs the file of a digest: it has the digest, or it lists a key that has it,
-- held or not, also that of a layer that is not distributed
abbrev pub NeedsFile : List Node → List Entry → (Descriptor → Type 0) → List ℕ → Type 0
NeedsFile graph entries is_one digest = HasDigestIn (λ k. is_one k ⊎ ((from : Descriptor) × is_one from × Lists graph entries from k)) digest

-- a digest's file that no kept key needs, with its length, and whether a held key has the digest; the
-- held keys have these bytes
pub record IsUnneeded (file : File) (graph : List Node) (entries : List Entry) (kept : BTreeSet Descriptor) (f : PrunedFile) : Type 0 where
  pub is_digest : IsDigest f.digest
  pub there : HasLength file (blob_path f.digest) f.length
  pub unneeded : NeedsFile graph entries (λ k. contains key_cmp kept k ≡ true) f.digest → ⊥
  pub held : IsTrue f.is_held ↔ HasDigestIn (λ k. has_key graph k ≡ true) f.digest

-- the files that no kept key needs, in byte order of their paths
pub record AreUnneeded (file : File) (graph : List Node) (entries : List Entry) (kept : BTreeSet Descriptor) (files : List PrunedFile) : Type 0 where
  pub each : (f : PrunedFile) → Contains files f ↔ IsUnneeded file graph entries kept f
  pub order : IsStrictlySortedBy (slice_cmp nat_cmp) (map (λ (f : PrunedFile). f.digest) files)

-- a plan for a layout in a directory: it keeps the roots and what they reach, and removes the other
-- keys, the files that nothing kept needs, and the drafts
pub record IsPrunePlan (dir : Device) (graph : List Node) (roots : List Descriptor) (plan : PrunePlan) : Type 0 where
  pub safe : IsSafe graph roots plan.kept
  pub rooted : All (λ k. contains key_cmp plan.kept k ≡ true) roots
  pub removed : AreRemoved graph plan.kept plan.removed.items
  pub files : dir.is_honest → AreUnneeded dir.file graph (stored dir.file graph) plan.kept plan.files.items
  pub drafts : dir.is_honest → ListsFiles dir.draft (by_name plan.drafts.items)

-- a plan keeps each held key, and no other, so that it removes none
pub record KeepsEach (graph : List Node) (plan : PrunePlan) : Type 0 where
  pub kept : (k : Descriptor) → (contains key_cmp plan.kept k ≡ true) ↔ (has_key graph k ≡ true)
  pub removed : plan.removed.items ≡ []

-- each key of a manifest kind that a held key lists is held
abbrev pub KnowsListed : List Node → Type 0
KnowsListed graph = (from k : Descriptor) → IsEdge graph from k → kind_of k.media_type ≢ Leaf → has_key graph k ≡ true

-- a plan that keeps each key, and removes the drafts alone
pub record IsLeftoverPlan (dir : Device) (graph : List Node) (plan : PrunePlan) : Type 0 where
  pub keys : KeepsEach graph plan
  pub files : plan.files.items ≡ []
  pub drafts : dir.is_honest → ListsFiles dir.draft (by_name plan.drafts.items)

-- a plan of a prune of what a store will be, whose files are in a directory: the kept keys belong to
-- the roots, and the other keys and the files that nothing kept needs are removed
pub record IsPlanAfter (dir : Device) (after : State) (roots : List Descriptor) (keeps : Bool) (plan : PrunePlan) : Type 0 where
  pub kept : (keeps ≡ true → after.is_honest) → AreKept after.nodes roots (RefersIf keeps after) plan.kept
  pub known : (keeps ≡ true → after.is_honest) → AllKnown after.nodes roots (RefersIf keeps after)
  pub safe : IsSafe after.nodes roots plan.kept
  pub removed : AreRemoved after.nodes plan.kept plan.removed.items
  pub files : dir.is_honest → after.is_honest → AreUnneeded dir.file after.nodes after.entries plan.kept plan.files.items
  pub drafts : plan.drafts.items ≡ []
