-- What a copy of keys brings along.
use Rattle.std.specs.Prelude.{◌≡◌, ◌↔◌, true, List, ◌++◌, filter, Contains}
use Rattle.std.specs.BTreeSet.{BTreeSet, contains}
use Rattle.std.specs.List.{IsDistinct}
use Rattle.oci_manifest.specs.Descriptor.{Descriptor, key_cmp, same_key}
use Rattle.oci_store.specs.Graph.{Node, IsEdge, Reaches}
use Rattle.oci_store.specs.Keyed.{has_key}
use Rattle.oci_store.specs.Tags.{Tags, by_bytes}
use Rattle.oci_prune.specs.Attached.{AreFollowers, AttachedIn, FollowsTag, follows_one}
use Rattle.oci_prune.specs.Belongs.{Belongs, AreMembers}
use Rattle.oci_prune.specs.declared.attachments.Attachments.{Attachments}
use Rattle.oci_prune.specs.declared.belonging.Belonging.{Belonging}

-- a key belongs to the given keys, and is attached to one that belongs to them
abbrev pub IsAttachedMember : List Node → List Descriptor → (Descriptor → Descriptor → Type 0) → Descriptor → Type 0
IsAttachedMember graph keys attached k = Belongs graph keys attached k × ((subject : Descriptor) × Belongs graph keys attached subject × attached k subject)

-- these keys are the members that are attached to a member
abbrev pub AreAttached : List Node → List Descriptor → (Descriptor → Descriptor → Type 0) → List Descriptor → Type 0
AreAttached graph keys attached found = (k : Descriptor) → Contains found k ↔ IsAttachedMember graph keys attached k

-- what belongs to keys, where `is_attached k subject` says that `k` is attached to `subject`
pub record IsBelonging (graph : List Node) (keys : List Descriptor) (is_attached : Descriptor → Descriptor → Type 0) (b : Belonging) : Type 0 where
  -- the members are the held keys that belong to the given ones
  pub members : AreMembers graph keys is_attached b.members
  -- the attached keys are the members that are attached to a member
  pub attached : AreAttached graph keys is_attached b.attached.items
  -- the tables have what is attached to each key
  pub attachments : (k subject : Descriptor) → AttachedIn b.attachments k subject ↔ is_attached k subject

-- what is given, listed or named by a tag is there, whatever the bytes of the layout are
pub record IsComplete (graph : List Node) (keys : List Descriptor) (all_tags : Tags) (b : Belonging) : Type 0 where
  -- each member is held
  pub held : (k : Descriptor) → contains key_cmp b.members k ≡ true → has_key graph k ≡ true
  -- each given key that is held is a member
  pub given : (k : Descriptor) → Contains keys k → has_key graph k ≡ true → contains key_cmp b.members k ≡ true
  -- each held key that a member lists is a member
  pub listed : (from k : Descriptor) → contains key_cmp b.members from ≡ true → IsEdge graph from k → has_key graph k ≡ true → contains key_cmp b.members k ≡ true
  -- the held key of each tag that names the digest of a member is a member, and attached
  pub followed : (k subject : Descriptor) → contains key_cmp b.members subject ≡ true → FollowsTag all_tags k subject → has_key graph k ≡ true → (contains key_cmp b.members k ≡ true) × Contains b.attached.items k
  -- each attached key is a member
  pub attached : (k : Descriptor) → Contains b.attached.items k → contains key_cmp b.members k ≡ true
  -- no attached key occurs twice
  pub distinct : IsDistinct same_key b.attached.items
  -- the members are the held keys that the given and the attached keys reach
  pub reached : (k : Descriptor) → (contains key_cmp b.members k ≡ true) ↔ (Reaches graph (keys ++ b.attached.items) k × (has_key graph k ≡ true))
  -- the members are what belongs to the given keys by the returned tables
  pub members : AreMembers graph keys (AttachedIn b.attachments) b.members
  -- the attached keys are the members that are attached to a member by these tables
  pub by_tables : AreAttached graph keys (AttachedIn b.attachments) b.attached.items
  -- by these tables exactly the keys of the tags that name a key's digest follow it
  pub followers : AreFollowers all_tags b.attachments.followers
  -- the tags are those whose names name the digest of a member, in their order
  pub tags : by_bytes b.tags.items ≡ filter (λ tag. follows_one b.members.keys tag.0) all_tags

-- these are the keys of the set that are attached to one of the subjects by the tables
abbrev pub AreAttachedTo : Attachments → BTreeSet Descriptor → List Descriptor → List Descriptor → Type 0
AreAttachedTo attachments set subjects found = (k : Descriptor) → Contains found k ↔ ((contains key_cmp set k ≡ true) × ((subject : Descriptor) × Contains subjects subject × AttachedIn attachments k subject))
