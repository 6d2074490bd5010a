-- What `tags` and `predecessors` list.
use Rattle.std.specs.Prelude.{◌≡◌, ◌≢◌, ◌↔◌, ◌++◌, ℕ, Bool, true, false, List, [], map, Option, Some, None, option_map, string_bytes, Contains}
use Rattle.std.specs.List.Sorted.{IsStrictlySortedBy}
use Rattle.std.specs.Map.{keys_of}
use Rattle.oci_layout_store.specs.Entries.{said}
use Rattle.oci_layout_store.specs.Layout.{OpenedIndex}
use Rattle.oci_layout_store.specs.Saved.{unnamed_keys}
use Rattle.oci_manifest.specs.Descriptor.{Descriptor, key_cmp}
use Rattle.oci_store.specs.Before.{IsBefore}
use Rattle.oci_store.specs.Graph.{Node, IsEdge}
use Rattle.oci_store.specs.Keyed.{has_key}
use Rattle.oci_store.specs.State.{State}
use Rattle.oci_store.specs.Tags.{Tags}
use Rattle.oci_reference.specs.Reference.{Names}
use Rattle.oci_prune.specs.Subjects.{Refers}
use Rattle.oci_prune.specs.Typed.{IsOfTypes}
use Rattle.oci_query_commands.specs.declared.listing.Listed.{Listed}

-- these are listed for a key
pub record ArePredecessors (store : State) (types : List (List ℕ)) (k : Descriptor) (found : List Descriptor) : Type 0 where
  -- without types, the held keys that list it, in key order
  pub all : types ≡ [] → IsBefore store.nodes k found
  -- with types, those of them that refer to it and are of one of these types
  pub typed : types ≢ [] → store.is_honest → (other : Descriptor) → Contains found other ↔ (IsEdge store.nodes other k × Refers store.entries other k × IsOfTypes store.entries types other)

-- these are listed for the key that a reference names
abbrev pub ArePredecessorsOf : State → List ℕ → List (List ℕ) → List Descriptor → Type 0
ArePredecessorsOf store reference types found = (k : Descriptor) × Names (keys_of store.nodes) store.tags reference k × ArePredecessors store types k found

-- a tag and its key, or a key without a tag
abbrev pub listing_of : Listed → Option (List ℕ) × Descriptor
listing_of listed = (option_map string_bytes listed.tag, listed.descriptor)

-- a tag as it is listed
abbrev pub named_listing : List ℕ × Descriptor → Option (List ℕ) × Descriptor
named_listing tag = (Some tag.0, tag.1)

-- a key without a tag as it is listed
abbrev pub unnamed_listing : Descriptor → Option (List ℕ) × Descriptor
unnamed_listing k = (None, k)

-- `tags` lists the tags of a layout, in their order, and then the keys without a tag
pub record AreTags (graph : List Node) (tags : Tags) (index : OpenedIndex) (lists_all : Bool) (found : List (Option (List ℕ) × Descriptor)) : Type 0 where
  pub unnamed : List Descriptor
  pub listed : found ≡ map named_listing tags ++ map unnamed_listing unnamed
  -- none if they are not asked for, and otherwise the held keys of the entries without a name
  pub none : lists_all ≡ false → unnamed ≡ []
  pub each : lists_all ≡ true → (k : Descriptor) → Contains unnamed k ↔ ((has_key graph k ≡ true) × Contains (unnamed_keys (said index.content).entries) k)
  pub order : IsStrictlySortedBy key_cmp unnamed
