-- The keys that list a key.
use Rattle.std.specs.Prelude.{◌≡◌, Bool, false, List}
use Rattle.std.specs.BTreeMap.{BTreeMap, get}
use Rattle.std.specs.Global.{Vec}
use Rattle.std.specs.Option.{option_map_or}
use Rattle.oci_manifest.specs.Descriptor.{Descriptor, is_among, key_cmp}
use Rattle.oci_store.specs.Graph.{Node}
use Rattle.oci_store.specs.Keyed.{value_at}

-- whether the first key is present and lists the second
abbrev pub lists_key : List Node → Descriptor → Descriptor → Bool
lists_key graph predecessor listed = option_map_or (λ keys. is_among keys listed) (value_at graph predecessor) false

-- a list of keys for each key
abbrev pub PredecessorLists : Type 0
PredecessorLists = BTreeMap Descriptor (Vec Descriptor)

-- whether the first key is in the list of the second
abbrev pub is_predecessor : PredecessorLists → Descriptor → Descriptor → Bool
is_predecessor lists predecessor listed = option_map_or (λ keys. is_among keys.items predecessor) (get key_cmp lists listed) false

-- the list of each key has the keys that list it
abbrev pub ArePredecessors : List Node → PredecessorLists → Type 0
ArePredecessors graph lists = (predecessor listed : Descriptor) → is_predecessor lists predecessor listed ≡ lists_key graph predecessor listed
