-- The effect of a copy on its destination.
use Rattle.std.specs.Prelude.{◌≡◌, ◌≤◌, true, List, ◌++◌, Result, IfErr}
use Rattle.std.specs.List.{All}
use Rattle.oci_manifest.specs.Descriptor.{Descriptor}
use Rattle.oci_store.specs.Keyed.{has_key, HasAll}
use Rattle.oci_store.specs.Graph.{Node, Reaches}
use Rattle.oci_store.specs.Closed.{IsClosed}
use Rattle.oci_store.specs.Copied.{Agree, IsCopied}
use Rattle.oci_store.specs.State.{State}
use Rattle.oci_plan.specs.Met.{IsMet}
use Rattle.oci_plan.specs.Outside.{IsVisited}
use Rattle.oci_plan.specs.Visiting.{IsSoundVisit}
use Rattle.oci_plan.specs.declared.gathering.Existing.TheVariants.{Descend}
use Rattle.oci_copy.specs.declared.fault.CopyFault.{CopyFault}
use Rattle.oci_copy.specs.declared.options.Options.{Options}
use Rattle.oci_copy.specs.declared.report.Report.{Report}
use Rattle.oci_copy.specs.Options.{limit_of}
use Rattle.oci_copy.specs.Destination.{IsClosedWhenSkipping}
use Rattle.oci_copy.specs.Fault.{IsEarly}
use Rattle.oci_copy.specs.Grown.{graph_of, BeginsWith, IsGrown, HasKnownBytes, ListsByBytes, StillLasts}
use Rattle.oci_copy.specs.Report.{IsReport}

-- the destination is a copy with this report: it has its earlier contents and all that the source
-- reaches from the roots, and nothing else
pub record IsCopy (shares : Type 0) (options : Options) (source opening : State) (roots : List Descriptor) (now : State) (report : Report) : Type 0 where
  -- so for the keys and what each lists, if the source is honest and the two graphs agree
  pub graph : source.is_honest → Agree (graph_of source) opening.nodes
      → IsCopied (graph_of source) (graph_of source) roots opening.nodes now.nodes
  -- then every key that the source reaches is held
  pub reached : source.is_honest → Agree (graph_of source) opening.nodes
      → (k : Descriptor) → Reaches (graph_of source) roots k → has_key now.nodes k ≡ true
  -- so for the bytes, if they are known and the two contents agree
  pub content : HasKnownBytes shares source opening now → Agree source.entries opening.entries
      → IsCopied (graph_of source) source.entries roots opening.entries now.entries
  -- the roots are held
  pub roots_held : HasAll now.nodes roots
  -- the destination was closed, if the copy skips the keys that it has
  pub was_closed : IsClosedWhenSkipping options.existing opening.nodes
  -- an honest source had every visited key, and each manifest among them is within the limit and
  -- reads; if the copy visits held keys, the source may lack these
  pub was_sound : source.is_honest → (k : Descriptor) → IsVisited options.existing (graph_of source) opening.nodes roots k
      → IsSoundVisit options.existing source.entries opening.nodes (limit_of options) k
  -- the report has the numbers of the copy
  pub reported : IsReport options.existing source opening roots now report

-- the destination lost nothing, and gained only what the source reaches from the roots, also after
-- an error
pub record OnlyGrows (shares : Type 0) (source opening : State) (roots : List Descriptor) (now : State) : Type 0 where
  -- its keys begin with its earlier keys, in their order
  pub begins : BeginsWith opening.nodes now.nodes
  -- the new keys from an honest source are reached from the roots, and each lists what its bytes
  -- list in the source
  pub grown : source.is_honest → IsGrown (graph_of source) (graph_of source) roots opening.nodes now.nodes
  -- so for the bytes, if they are known; the destination then stays sound
  pub grown_content : HasKnownBytes shares source opening now → IsGrown (graph_of source) source.entries roots opening.entries now.entries
  pub sound : HasKnownBytes shares source opening now → now.is_sound
  -- whatever the source's device has now, each new key is a root, or bytes that match another such
  -- key of the source list it
  pub met : (added : List Node) × (now.nodes ≡ opening.nodes ++ added) × All (λ (n : Node). IsMet Descend source.entries opening.nodes roots n.0) added
  -- all that the new keys list is held
  pub whole : (added : List Node) × (now.nodes ≡ opening.nodes ++ added) × All (λ (n : Node). HasAll now.nodes n.1) added
  -- from any source: each new key lists what bytes that match it list
  pub checked : (added : List Node) × (now.nodes ≡ opening.nodes ++ added) × All ListsByBytes added
  -- if it was closed, it is closed
  pub closed : IsClosed opening.nodes → IsClosed now.nodes
  -- the count of failed puts does not fall, and it is the same store
  pub failures : opening.failures ≤ now.failures
  pub name : now.name ≡ opening.name
  -- a crash finds there what lasted at the opening
  pub lasts : StillLasts source opening now

-- a copy sets no tag, and changes nothing if it is refused before its first push
pub record Spares {D : Type 0} (state : D → State) (opening now : D) (answer : Result Report CopyFault) : Type 0 where
  pub tags : (state now).tags ≡ (state opening).tags
  pub unchanged : IfErr answer (λ fault. IsEarly fault → now ≡ opening)
