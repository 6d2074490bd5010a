-- The state that a copy between two layouts leaves.
use Rattle.std.specs.Prelude.{◌≡◌, ◌≤◌, true, List, ◌++◌}
use Rattle.std.specs.List.{All}
use Rattle.oci_manifest.specs.Descriptor.{Descriptor}
use Rattle.oci_store.specs.Copied.{Agree, IsCopied}
use Rattle.oci_store.specs.Graph.{Node, Reaches}
use Rattle.oci_store.specs.Keyed.{has_key, HasAll}
use Rattle.oci_store.specs.Push.{IsCalm}
use Rattle.oci_store.specs.State.{State}
use Rattle.oci_plan.specs.Met.{IsMet}
use Rattle.oci_plan.specs.declared.gathering.Existing.TheVariants.{Descend}
use Rattle.oci_copy.specs.Grown.{graph_of, ListsByBytes, SameByDigest}

-- The premise of all statements about the bytes of a copy between two layouts: nobody else writes
-- into either folder, each file that the destination had matches its key, a digest that is in both
-- has the same bytes in both, and no put failed between the two states of the destination.
pub record IsTrusted (source old new : State) : Type 0 where
  pub is_honest : source.is_honest
  pub is_sound : old.is_sound
  pub same : SameByDigest source.entries old.entries
  pub is_calm : IsCalm old.failures new.failures

-- each key that arrived is held with all keys that it lists
abbrev pub HoldsWhatCame : List Node → List Node → Type 0
HoldsWhatCame old new = (added : List Node) × (new ≡ old ++ added) × All (λ (n : Node). HasAll new n.1) added

-- the list of each key that arrived is the list in bytes that match the key
abbrev pub BringsOnlyChecked : List Node → List Node → Type 0
BringsOnlyChecked old new = (added : List Node) × (new ≡ old ++ added) × All ListsByBytes added

-- each key that arrived is a root, or is listed by bytes that match such a key of the source
abbrev pub BringsOnlyMet : State → List Node → List Descriptor → List Node → Type 0
BringsOnlyMet source old roots new = (added : List Node) × (new ≡ old ++ added) × All (λ (n : Node). IsMet Descend source.entries old roots n.0) added

-- the destination has exactly the keys that it had and the keys that the source reaches from the
-- roots, each with the bytes of its file
abbrev pub IsCopiedBetween : State → State → List Descriptor → State → Type 0
IsCopiedBetween source old roots new = IsTrusted source old new → IsCopied (graph_of source) source.entries roots old.entries new.entries

-- every key that an honest source reaches from the roots is held, if the two agree on the lists of
-- their keys
abbrev pub HasReached : State → State → List Descriptor → State → Type 0
HasReached source old roots new = source.is_honest → Agree (graph_of source) old.nodes → (k : Descriptor) → Reaches (graph_of source) roots k → has_key new.nodes k ≡ true

-- a save changes no key and no list of the layout, and no bytes if its files match
pub record IsSaved (old new : State) : Type 0 where
  pub nodes : new.nodes ≡ old.nodes
  pub entries : old.is_sound → new.entries ≡ old.entries
  pub sound : old.is_sound → new.is_sound
  pub failures : old.failures ≤ new.failures
