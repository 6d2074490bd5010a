-- How a destination grows from a source, and when its bytes are known.
use Rattle.std.specs.Prelude.{◌≡◌, ℕ, List, ◌++◌, Some}
use Rattle.oci_manifest.specs.Descriptor.{Descriptor}
use Rattle.oci_store.specs.Keyed.{value_at}
use Rattle.oci_store.specs.Content.{Entry, IsChecked}
use Rattle.oci_store.specs.Graph.{Node, nodes_of}
use Rattle.oci_store.specs.Copied.{AreReached}
use Rattle.oci_store.specs.Push.{IsCalm}
use Rattle.oci_store.specs.State.{State}
use Rattle.oci_store.specs.Tags.{Tags}

-- the graph of the store's bytes
abbrev pub graph_of : State → List Node
graph_of store = nodes_of store.entries

-- the key of the node lists what bytes that match it list
abbrev pub ListsByBytes : Node → Type 0
ListsByBytes n = (bytes : List ℕ) × IsChecked n.0 bytes n.1

-- the new list begins with the old one
abbrev pub BeginsWith : {X : Type 0} → List X → List X → Type 0
BeginsWith {X} old new = (added : List X) × (new ≡ old ++ added)

-- the new pairs are the old ones, and then pairs of the source whose keys are reached from the
-- roots
abbrev pub IsGrown : {X : Type 0} → List Node → List (Descriptor × X) → List Descriptor → List (Descriptor × X) → List (Descriptor × X) → Type 0
IsGrown {X} graph source roots old new = (added : List (Descriptor × X)) × (new ≡ old ++ added)
    × AreReached graph source roots added

-- a key of the one and a key of the other with the same digest have the same bytes
abbrev pub SameByDigest : List Entry → List Entry → Type 0
SameByDigest a b = (k other : Descriptor) (x y : List ℕ) → value_at a k ≡ Some x → value_at b other ≡ Some y
    → other.digest ≡ k.digest → y ≡ x

-- what lasted of the destination still lasts, if the source is honest, and each lasting content has the
-- source's bytes where the two share a digest
abbrev pub StillLasts : State → State → State → Type 0
StillLasts source opening now = source.is_honest → (entries : List Entry) (tags : Tags) → SameByDigest source.entries entries
    → opening.lasts entries tags → now.lasts entries tags

-- The bytes of a copy are known: the source is honest, and the destination was sound. None of its
-- puts failed from its opening until now, and none could fail uncounted. If the destination keeps
-- one file per digest, keys with one digest have the same bytes.
pub record HasKnownBytes (shares : Type 0) (source opening now : State) : Type 0 where
  pub is_honest : source.is_honest
  pub is_sound : opening.is_sound
  pub is_calm : IsCalm opening.failures now.failures
  pub same_old : shares → SameByDigest source.entries opening.entries
  pub same_source : shares → SameByDigest source.entries source.entries
