-- The facts that a run of pushes keeps of its destination.
use Rattle.std.specs.Prelude.{◌≡◌, ◌≤◌, ◌↔◌, List, ◌++◌, Some, Contains}
use Rattle.std.specs.List.{All}
use Rattle.oci_manifest.specs.Descriptor.{Descriptor}
use Rattle.oci_store.specs.Keyed.{value_at, HasAll, HasDistinctKeys}
use Rattle.oci_store.specs.Graph.{Node}
use Rattle.oci_store.specs.State.{State}
use Rattle.oci_copy.specs.Grown.{graph_of, HasKnownBytes, ListsByBytes, StillLasts}

-- these are pairs of the source whose keys are planned
abbrev pub ArePlanned : {X : Type 0} → List (Descriptor × X) → List Descriptor → List (Descriptor × X) → Type 0
ArePlanned {X} source planned added =
    All (λ (e : Descriptor × X). Contains planned e.0 × (value_at source e.0 ≡ Some e.1)) added

-- the pairs are the opening ones, and then pairs of the source whose keys are planned
pub record IsOpeningAnd {X : Type 0} (source : List (Descriptor × X)) (planned : List Descriptor) (opening now : List (Descriptor × X)) : Type 0 where
  pub added : List (Descriptor × X)
  pub is : now ≡ opening ++ added
  pub each : ArePlanned source planned added

-- the facts that a run of pushes of planned keys keeps of its destination, from its opening until
-- now
pub record Keeps (shares : Type 0) (source : State) (planned : List Descriptor) (opening now : State) : Type 0 where
  -- the added keys are planned, and all that they list is held
  pub added : List Node
  pub is : now.nodes ≡ opening.nodes ++ added
  pub planned_keys : All (λ (n : Node). Contains planned n.0) added
  pub supported : All (λ (n : Node). HasAll now.nodes n.1) added
  -- from any source: each added key lists what bytes that match it list
  pub checked : All ListsByBytes added
  -- from an honest source, each added node is the source's; if the bytes are known, each added
  -- entry is the source's too
  pub own : source.is_honest → All (λ (n : Node). value_at (graph_of source) n.0 ≡ Some n.1) added
  pub known : HasKnownBytes shares source opening now → now.is_sound × IsOpeningAnd source.entries planned opening.entries now.entries
  -- the rest is unchanged, except the count of failed puts
  pub rising : opening.failures ≤ now.failures
  pub tags : now.tags ≡ opening.tags
  pub name : now.name ≡ opening.name
  -- a crash finds there what lasted at the opening
  pub lasts : StillLasts source opening now

-- a run of pushes can begin: all that it keeps holds, the destination had halted only if it had at the
-- opening, and no put failed since
pub record CanBegin (shares : Type 0) (source : State) (planned : List Descriptor) (opening now : State) : Type 0 where
  pub keeps : Keeps shares source planned opening now
  pub halted : now.is_halted → opening.is_halted
  pub calm : now.failures ≡ opening.failures

-- a run of pushes has ended, and its lock had this graph
pub record HasEnded (shares : Type 0) (source : State) (planned : List Descriptor) (opening : State) (graph : List Node) (now : State) : Type 0 where
  pub nodes : now.nodes ≡ graph
  pub distinct : HasDistinctKeys now.nodes
  pub keeps : Keeps shares source planned opening now

-- the source is as a run noted it when it began
pub record IsNoted (noted now : State) : Type 0 where
  pub entries : now.entries ≡ noted.entries
  pub fails_at : now.fails_at ≡ noted.fails_at
  pub honest : now.is_honest ↔ noted.is_honest
  pub sound : now.is_sound ↔ noted.is_sound
