-- The keys of a layout that no tag names, and that are wanted for themselves.
use Rattle.std.specs.Prelude.{◌≡◌, ◌↔◌, true, List, Contains}
use Rattle.std.specs.BTreeSet.{BTreeSet, contains}
use Rattle.oci_manifest.specs.Descriptor.{Descriptor, key_cmp}
use Rattle.oci_store.specs.Graph.{Node, IsEdge}
use Rattle.oci_store.specs.Keyed.{has_key}
use Rattle.oci_store.specs.State.{State}
use Rattle.oci_prune.specs.Attached.{AttachedIn}
use Rattle.oci_prune.specs.Plan.{HasDigestIn}
use Rattle.oci_prune.specs.Subjects.{Refers}
use Rattle.oci_prune.specs.declared.attachments.Attachments.{Attachments}

-- A held key is free if no named key has its digest, if each key that lists it refers to it, as a
-- signature does, and if it refers to no held key itself.
pub record IsFree (store : State) (named : List Descriptor) (k : Descriptor) : Type 0 where
  pub held : has_key store.nodes k ≡ true
  pub unnamed : HasDigestIn (Contains named) k.digest → ⊥
  pub unlisted : (parent : Descriptor) → IsEdge store.nodes parent k → Refers store.entries parent k
  pub apart : (subject : Descriptor) → has_key store.nodes subject ≡ true → Refers store.entries k subject → ⊥

-- the set has the free keys of a store, and no other
abbrev pub AreFree : State → List Descriptor → BTreeSet Descriptor → Type 0
AreFree store named found = (k : Descriptor) → (contains key_cmp found k ≡ true) ↔ IsFree store named k

-- ---- by a table

-- each key that lists this one is attached to it by the table
abbrev pub IsUnlisted : List Node → Attachments → Descriptor → Type 0
IsUnlisted graph attachments k = (parent : Descriptor) → IsEdge graph parent k → AttachedIn attachments parent k

-- the set has those of these keys that no key lists which is not attached to them
abbrev pub AreUnlisted : List Node → Attachments → List Descriptor → BTreeSet Descriptor → Type 0
AreUnlisted graph attachments keys found = (k : Descriptor) → (contains key_cmp found k ≡ true) ↔ (Contains keys k × IsUnlisted graph attachments k)
