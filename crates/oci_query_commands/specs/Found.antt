-- What `verify` finds.
use Rattle.std.specs.Prelude.{◌≡◌, ◌↔◌, ◌+◌, ◌-◌, ◌^◌, ◌||◌, ◌&&◌, ◌++◌, ◌∷◌, ℕ, Bool, true, if◌then◌else◌, not, min, List, [], length, map, filter, find, Option, Some, None, option_map, string_bytes}
use Rattle.std.specs.List.{list_any}
use Rattle.std.specs.Map.{keys_of}
use Rattle.oci_dir.specs.Device.{Device}
use Rattle.oci_layout_store.specs.Entries.{IndexEntry, said}
use Rattle.oci_layout_store.specs.Layout.{OpenedIndex}
use Rattle.oci_layout_store.specs.Saved.{is_name}
use Rattle.oci_manifest.specs.Descriptor.{Descriptor, is_among}
use Rattle.oci_store.specs.Closed.{with_predecessor}
use Rattle.oci_store.specs.Graph.{Node, Reaches}
use Rattle.oci_store.specs.Keyed.{has_key}
use Rattle.oci_program.specs.declared.answer.Tagged.{Tagged}
use Rattle.oci_verify.specs.Corrupt.{AreCorrupt, AreCorruptOf}
use Rattle.oci_verify.specs.Intact.{HasFiles}
use Rattle.oci_query_commands.specs.Foreign.{AreCorruptForeign}
use Rattle.oci_query_commands.specs.declared.verify.Findings.{Findings}
use Rattle.oci_query_commands.specs.declared.verify.Open.{Open}

-- ---- a key that lists a key without a file

-- whether there is a file of a key: it is held or damaged
abbrev pub has_file : List Node → (Descriptor → Bool) → Descriptor → Bool
has_file graph is_damaged k = has_key graph k || is_damaged k

-- the first of these keys without a file; here and below, a test says of a key whether it has one
abbrev pub without_file : (Descriptor → Bool) → List Descriptor → Option Descriptor
without_file has_file keys = find (λ k. not (has_file k)) keys

-- the first of these nodes that lists a key without a file, with the first such key
abbrev pub first_without_file : (Descriptor → Bool) → List Node → Option (Descriptor × Descriptor)
first_without_file has_file [] = None
first_without_file has_file (n ∷ nodes) = with_predecessor n.0 (without_file has_file n.1) (first_without_file has_file nodes)

abbrev pub pair_of : Open → Descriptor × Descriptor
pair_of found = (found.holder, found.missing)

-- ---- entries whose name a later one has

abbrev pub tagged_of : Tagged → List ℕ × Descriptor
tagged_of entry = (string_bytes entry.tag, entry.descriptor)

-- a name and a key, if both are there and the name passes a test; an empty text is no name
abbrev pub tagged_if : (List ℕ → Bool) → Option Descriptor → Option (List ℕ) → List (List ℕ × Descriptor)
tagged_if passes None name = []
tagged_if passes (Some k) None = []
tagged_if passes (Some k) (Some []) = []
tagged_if passes (Some k) (Some (c ∷ cs)) = if passes (c ∷ cs) then (c ∷ cs, k) ∷ [] else []

-- whether one of these entries has a name
abbrev pub has_name : List IndexEntry → List ℕ → Bool
has_name entries name = list_any (λ (e : IndexEntry). is_name name e.name) entries

-- the name and the key of each of these entries that has both and whose name a later one has
abbrev pub shadowed_in : List IndexEntry → List (List ℕ × Descriptor)
shadowed_in [] = []
shadowed_in (e ∷ es) = tagged_if (has_name es) e.key e.name ++ shadowed_in es

-- ---- the findings

-- the findings of `verify` in a layout that was opened
pub record AreFindings (dir : Device) (graph : List Node) (index : OpenedIndex) (findings : Findings) : Type 0 where
  -- the absent keys of the entries that are not damaged, in their order
  pub absent : map (λ k. k.now) findings.absent.items ≡ filter (λ k. not (is_among index.damaged k)) index.absent
  pub corrupt : HasFiles dir graph → AreCorrupt dir.file graph index.damaged findings.corrupt.items
  pub foreign : dir.is_honest → AreCorruptForeign (λ k. true) dir.file graph findings.corrupt_foreign.items
  pub without_file : option_map pair_of findings.open ≡ first_without_file (has_file graph (is_among index.damaged)) graph
  pub shadowed : map tagged_of findings.shadowed.items ≡ shadowed_in (said index.content).entries
  -- how many keys have a file; the count stops at the largest number of 64 bits
  pub held : findings.held ≡ min (length graph + length index.damaged) (2 ^ 64 - 1)

-- ---- the findings below a key

-- the findings of `verify` that speak of keys which pass a test, and the first of these that lists a key
-- without a file
pub record AreFindingsOf (dir : Device) (graph : List Node) (index : OpenedIndex) (is_asked : Descriptor → Bool) (findings : Findings) : Type 0 where
  pub absent : map (λ k. k.now) findings.absent.items ≡ filter (λ k. is_asked k && not (is_among index.damaged k)) index.absent
  pub corrupt : HasFiles dir graph → AreCorruptOf is_asked dir.file graph index.damaged findings.corrupt.items
  pub foreign : dir.is_honest → AreCorruptForeign is_asked dir.file graph findings.corrupt_foreign.items
  pub without_file : option_map pair_of findings.open ≡ first_without_file (has_file graph (is_among index.damaged)) (filter (λ (n : Node). is_asked n.0) graph)
  pub shadowed : map tagged_of findings.shadowed.items ≡ filter (λ (t : List ℕ × Descriptor). is_asked t.1) (shadowed_in (said index.content).entries)
  pub held : findings.held ≡ min (length (filter is_asked (keys_of graph)) + length (filter is_asked index.damaged)) (2 ^ 64 - 1)

-- the findings of `verify` that speak of the keys which a key reaches
pub record AreFindingsBelow (dir : Device) (graph : List Node) (index : OpenedIndex) (root : Descriptor) (findings : Findings) : Type 0 where
  pub is_reached : Descriptor → Bool
  pub reached : (k : Descriptor) → (is_reached k ≡ true) ↔ Reaches graph (root ∷ []) k
  pub found : AreFindingsOf dir graph index is_reached findings
