-- What is left of a layout when a tag goes with all that belonged to it alone.
use Rattle.std.specs.Prelude.{◌≡◌, ◌↔◌, ◌⊎◌, true, List, [], ◌++◌, filter, Option, None, Some, Contains}
use Rattle.std.specs.BTreeSet.{BTreeSet, contains}
use Rattle.std.specs.Map.{values_of}
use Rattle.oci_manifest.specs.Descriptor.{Descriptor, key_cmp}
use Rattle.oci_store.specs.Graph.{Node}
use Rattle.oci_store.specs.Keyed.{first_missing, has_key}
use Rattle.oci_store.specs.Tags.{Tags}
use Rattle.oci_dir.specs.Device.{Device}
use Rattle.oci_layout_store.specs.Entries.{said, unreadable_places}
use Rattle.oci_layout_store.specs.Layout.{LayoutState, OpenedIndex, manifests_of}
use Rattle.oci_layout_store.specs.Meaning.{meaning}
use Rattle.oci_layout_store.specs.Saved.{shadowed_keys}
use Rattle.oci_prune.specs.Attached.{AreIndependent, AttachedBy, FollowsTag}
use Rattle.oci_prune.specs.Belongs.{AreMembers, Belongs}
use Rattle.oci_prune.specs.Free.{AreFree}
use Rattle.oci_prune.specs.Plan.{IsSafe, KnowsListed, roots_of}

-- ---- what is known

-- each entry of the opened index is a descriptor and was held, and each damaged manifest is held now
pub record HasWholeIndex (graph : List Node) (opened : OpenedIndex) : Type 0 where
  pub present : opened.absent ≡ []
  pub sound : first_missing graph (manifests_of opened.damaged) ≡ None
  pub readable : unreadable_places (said opened.content).entries ≡ []

-- so it is known what each held key lists, and each manifest that one lists is held
abbrev pub IsKnown : List Node → OpenedIndex → Type 0
IsKnown graph opened = HasWholeIndex graph opened × KnowsListed graph

-- ---- what stays

-- A key stays for itself where a tag goes that had the keys `going`: it is one of the `others`, or it is
-- held and did not belong to `going`.
abbrev pub StaysItself : List Node → List Descriptor → List Descriptor → (Descriptor → Descriptor → Type 0) → Descriptor → Type 0
StaysItself graph going others attached k = Contains others k ⊎ ((has_key graph k ≡ true) × (Belongs graph going attached k → ⊥))

-- the kept keys are those that belong to the keys that stay for themselves
pub record AreLeft (graph : List Node) (going others : List Descriptor) (attached : Descriptor → Descriptor → Type 0) (kept : BTreeSet Descriptor) : Type 0 where
  pub roots : List Descriptor
  pub each : (k : Descriptor) → Contains roots k ↔ StaysItself graph going others attached k
  pub members : AreMembers graph roots attached kept

-- The keys that a layout is wanted for, once it has lost a tag that had the keys `going`: those of the
-- tags that follow no other key, those of the entries that a tag hides, and the free keys. A key with the
-- digest of one of `going` is not free.
pub record AreOthers {D : Type 0} (dir : Device) (layout : LayoutState D) (going others : List Descriptor) : Type 0 where
  pub tags : Tags
  pub independent : AreIndependent layout.graph layout.tags tags
  pub free : BTreeSet Descriptor
  pub are_free : dir.is_honest → AreFree (meaning dir layout.graph layout.tags) (going ++ roots_of layout) free
  pub joined : others ≡ values_of tags ++ (shadowed_keys layout.opened layout.graph layout.tags ++ free.keys)

-- with each of these keys the held keys of the tags that name its digest are among them
abbrev pub HasFollowers : List Node → Tags → BTreeSet Descriptor → Type 0
HasFollowers graph tags kept = (k subject : Descriptor) → contains key_cmp kept subject ≡ true → FollowsTag tags k subject → has_key graph k ≡ true → contains key_cmp kept k ≡ true

-- What is kept of a layout that has lost a tag which had the keys `going`. Whatever the bytes of the
-- layout are, what the others reach is kept, and with each kept key what it lists and what follows it by
-- a tag.
pub record KeepsOthers {D : Type 0} (dir : Device) (layout : LayoutState D) (going : List Descriptor) (kept : BTreeSet Descriptor) : Type 0 where
  pub others : List Descriptor
  pub are_others : AreOthers dir layout going others
  pub left : dir.is_honest → AreLeft layout.graph going others (AttachedBy (meaning dir layout.graph layout.tags).entries layout.tags) kept
  pub safe : IsSafe layout.graph others kept
  pub followed : HasFollowers layout.graph layout.tags kept

-- the plan of what a layout keeps that has lost a tag which had the keys `going`: none, if it is not known
-- what each key lists
abbrev pub IsUntagPlan : {D : Type 0} → Device → LayoutState D → List Descriptor → Option (BTreeSet Descriptor) → Type 0
IsUntagPlan dir layout going None = IsKnown layout.graph layout.opened → ⊥
IsUntagPlan dir layout going (Some kept) = IsKnown layout.graph layout.opened × KeepsOthers dir layout going kept

-- ---- the tags

-- the tags of the kept keys
abbrev pub tags_of_kept : BTreeSet Descriptor → Tags → Tags
tags_of_kept kept tags = filter (λ t. contains key_cmp kept t.1) tags
