-- The tags of a layout of which a blob is missing or damaged.
use Rattle.std.specs.Prelude.{◌≡◌, ◌≢◌, ◌↔◌, ◌||◌, ◌++◌, ◌∷◌, ℕ, Bool, true, not, List, [], map, codes, flat_map, Option, Some, None, option_and_then, string_bytes, Contains}
use Rattle.std.specs.Cmp.Lexicographic.{slice_cmp}
use Rattle.std.specs.List.{All}
use Rattle.std.specs.List.Sorted.{IsStrictlySortedBy}
use Rattle.std.specs.Map.{keys_of}
use Rattle.std.specs.Ordering.{nat_cmp}
use Rattle.oci_dir.specs.Device.{Device}
use Rattle.oci_layout_store.specs.Entries.{IndexEntry, said}
use Rattle.oci_layout_store.specs.Layout.{OpenedIndex}
use Rattle.oci_layout_store.specs.Saved.{last_entry}
use Rattle.oci_manifest.specs.Descriptor.{Descriptor, is_among, key_cmp}
use Rattle.oci_store.specs.Graph.{Node, Reaches}
use Rattle.oci_store.specs.Keyed.{has_key}
use Rattle.oci_store.specs.Tags.{Tags, set_tag, tag_at}
use Rattle.oci_query_commands.specs.Found.{AreFindings}
use Rattle.oci_query_commands.specs.Lines.{findings_text, key_line}
use Rattle.oci_query_commands.specs.declared.broken.BrokenTag.{BrokenTag}
use Rattle.oci_query_commands.specs.declared.broken.FindingsByTag.{FindingsByTag}

-- the key of a tag, held or not: a name belongs to its last entry, and an empty text is no name
abbrev pub key_of_tag : List IndexEntry → List ℕ → Option Descriptor
key_of_tag entries [] = None
key_of_tag entries (c ∷ cs) = option_and_then (λ (e : IndexEntry). e.key) (last_entry (c ∷ cs) entries)

-- these are the tags of an index, held or not, in byte order
pub record AreAllTags (entries : List IndexEntry) (tags : Tags) : Type 0 where
  pub each : (name : List ℕ) → tag_at tags name ≡ key_of_tag entries name
  pub order : IsStrictlySortedBy (slice_cmp nat_cmp) (keys_of tags)

-- whether a key is missing or damaged: it is not held, or it is corrupt
abbrev pub is_bad : List Node → (Descriptor → Bool) → Descriptor → Bool
is_bad graph is_corrupt k = not (has_key graph k) || is_corrupt k

-- these are the missing and the damaged keys that a key reaches, in key order
pub record AreBad (graph : List Node) (is_corrupt : Descriptor → Bool) (root : Descriptor) (keys : List Descriptor) : Type 0 where
  pub each : (k : Descriptor) → Contains keys k ↔ ((is_bad graph is_corrupt k ≡ true) × Reaches graph (root ∷ []) k)
  pub order : IsStrictlySortedBy key_cmp keys

-- a tag is broken: its key reaches these missing and damaged keys, and there is one
pub record IsBroken (graph : List Node) (is_corrupt : Descriptor → Bool) (key_of : List ℕ → Option Descriptor) (tag : List ℕ × List Descriptor) : Type 0 where
  pub key : Descriptor
  pub named : key_of tag.0 ≡ Some key
  pub bad : AreBad graph is_corrupt key tag.1
  pub some : tag.1 ≢ []

-- these are the broken tags, in byte order
pub record AreBroken (graph : List Node) (is_corrupt : Descriptor → Bool) (key_of : List ℕ → Option Descriptor) (found : List (List ℕ × List Descriptor)) : Type 0 where
  pub each : All (IsBroken graph is_corrupt key_of) found
  pub all : (name : List ℕ) (key bad : Descriptor) → key_of name ≡ Some key → is_bad graph is_corrupt bad ≡ true → Reaches graph (key ∷ []) bad → Contains (keys_of found) name
  pub order : IsStrictlySortedBy (slice_cmp nat_cmp) (keys_of found)

-- a tag with its missing and damaged keys
abbrev pub broken_of : BrokenTag → List ℕ × List Descriptor
broken_of broken = (string_bytes broken.tag, broken.blobs.items)

-- the findings of `verify --tags` in a layout that was opened
pub record AreFindingsByTag (dir : Device) (graph : List Node) (index : OpenedIndex) (by_tag : FindingsByTag) : Type 0 where
  pub found : AreFindings dir graph index by_tag.findings
  pub broken : AreBroken graph (is_among by_tag.findings.corrupt.items) (key_of_tag (said index.content).entries) (map broken_of by_tag.broken.items)

-- ---- the lines

-- a tag and the first of these keys
abbrev pub first_line : List ℕ → List Descriptor → List ℕ
first_line tag [] = []
first_line tag (k ∷ keys) = codes "broken " ++ tag ++ codes " " ++ key_line k

abbrev pub broken_line : BrokenTag → List ℕ
broken_line broken = first_line (string_bytes broken.tag) broken.blobs.items

abbrev pub by_tag_text : FindingsByTag → List ℕ
by_tag_text by_tag = findings_text by_tag.findings ++ flat_map broken_line by_tag.broken.items

-- ---- the code

-- tags with one more if it has a key
abbrev pub with_tag : Tags → List ℕ → Option Descriptor → Tags
with_tag tags name None = tags
with_tag tags name (Some k) = set_tag tags name k

-- tags with that of an entry of this name, if it has a key
abbrev pub with_tag_of : List IndexEntry → Option (List ℕ) → Tags → Tags
with_tag_of entries None tags = tags
with_tag_of entries (Some name) tags = with_tag tags name (key_of_tag entries name)

-- broken tags with one more if it is broken
abbrev pub with_broken : List (List ℕ × List Descriptor) → List ℕ → List Descriptor → List (List ℕ × List Descriptor)
with_broken found name [] = found
with_broken found name (k ∷ keys) = found ++ (name, k ∷ keys) ∷ []

-- broken tags with that of a key, if it is broken
abbrev pub AddsBroken : List Node → (Descriptor → Bool) → List ℕ → Descriptor → List (List ℕ × List Descriptor) → List (List ℕ × List Descriptor) → Type 0
AddsBroken graph is_corrupt name key old new = (keys : List Descriptor) × AreBad graph is_corrupt key keys × (new ≡ with_broken old name keys)
