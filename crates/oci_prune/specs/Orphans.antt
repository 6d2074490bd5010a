-- The tags that a prune takes away when it keeps what tags need: each names the digest of an image that
-- does not stay.
use Rattle.std.specs.Prelude.{◌≡◌, ◌⊎◌, ℕ, Bool, true, not, ◌&&◌, List, [], ◌∷◌, ◌++◌, filter, flat_map, if◌then◌else◌, Option, None, Some}
use Rattle.std.specs.BTreeSet.{BTreeSet}
use Rattle.std.specs.Map.{values_of}
use Rattle.oci_manifest.specs.Descriptor.{Descriptor}
use Rattle.oci_store.specs.Keyed.{has_key}
use Rattle.oci_store.specs.Tags.{Tags}
use Rattle.oci_dir.specs.Device.{Device}
use Rattle.oci_layout_store.specs.Entries.{IndexEntry, said}
use Rattle.oci_layout_store.specs.Layout.{LayoutState}
use Rattle.oci_layout_store.specs.Meaning.{meaning}
use Rattle.oci_layout_store.specs.Saved.{no_name}
use Rattle.oci_prune.specs.Attached.{AreIndependent, AttachedBy, follows_one, names_digest}
use Rattle.oci_prune.specs.Belongs.{AreMembers}
use Rattle.oci_prune.specs.Plan.{AreHeld, IsSafe}
use Rattle.oci_prune.specs.Refusal.{IsCheckFault}
use Rattle.oci_prune.specs.Subjects.{IsSubjectFault}
use Rattle.oci_prune_fault.specs.declared.fault.PruneFault.{PruneFault}

-- ---- what is wanted

-- a name with a key, if both are there
abbrev pub pair_of : Option (List ℕ) → Option Descriptor → Tags
pair_of None key = []
pair_of (Some name) None = []
pair_of (Some name) (Some k) = (name, k) ∷ []

-- the name of an entry with its key, if it has both; an empty text is no name
abbrev pub named_pair : IndexEntry → Tags
named_pair e = if not (no_name e.name) then pair_of e.name e.key else []

-- the names of entries, each with its key
abbrev pub named_pairs : List IndexEntry → Tags
named_pairs entries = flat_map named_pair entries

-- the tags of a layout, and the names of the entries of its index with their keys, also of those that a
-- tag hides
abbrev pub all_named : {D : Type 0} → LayoutState D → Tags
all_named layout = layout.tags ++ named_pairs (said layout.opened.content).entries

-- A name with its key is free if it follows no held key, or names the digest of its own. The keys are
-- those that belong to the free ones by subjects and by all these names. Whatever the bytes of the layout
-- are, what the free ones reach is among them.
pub record AreWanted {D : Type 0} (dir : Device) (layout : LayoutState D) (wanted : BTreeSet Descriptor) : Type 0 where
  pub free : Tags
  pub are_free : AreIndependent layout.graph (all_named layout) free
  pub members : dir.is_honest → AreMembers layout.graph (values_of free) (AttachedBy (meaning dir layout.graph layout.tags).entries (all_named layout)) wanted
  pub safe : IsSafe layout.graph (values_of free) wanted

-- ---- the tags

-- whether a tag is an orphan: it follows a held key, but no wanted one, and not its own
abbrev pub is_orphan : List Descriptor → List Descriptor → List ℕ × Descriptor → Bool
is_orphan held wanted t = (follows_one held t.0 && not (follows_one wanted t.0)) && not (names_digest t.0 t.1.digest)

-- the orphans among tags
abbrev pub orphans_in : List Descriptor → List Descriptor → Tags → Tags
orphans_in held wanted tags = filter (is_orphan held wanted) tags

-- the tags without the orphans
abbrev pub without_orphans : List Descriptor → List Descriptor → Tags → Tags
without_orphans held wanted tags = filter (λ t. not (is_orphan held wanted t)) tags

-- a layout has lost its orphans, which are these
pub record LosesOrphans {D : Type 0} (dir : Device) (old new : LayoutState D) (lost : Tags) : Type 0 where
  pub held : List Descriptor
  pub are_held : AreHeld old.graph held
  pub wanted : BTreeSet Descriptor
  pub are_wanted : AreWanted dir old wanted
  pub tags : new.tags ≡ without_orphans held wanted.keys old.tags
  pub each : lost ≡ orphans_in held wanted.keys old.tags

-- why the orphans of a layout are not known: it is not whole, or a subject was not read
abbrev pub IsOrphanFault : {D : Type 0} → Device → LayoutState D → PruneFault → Type 0
IsOrphanFault dir layout e = IsCheckFault dir layout.graph layout.opened e ⊎ IsSubjectFault (meaning dir layout.graph layout.tags) (λ k. has_key layout.graph k ≡ true) e
