-- The promises of a copy between stores in memory, in terms of their entries.
use Rattle.std.specs.Prelude.{◌≡◌, ◌+◌, ◌++◌, true, List, length, Result, IfErr}
use Rattle.std.specs.List.{All}
use Rattle.oci_manifest.specs.Descriptor.{Descriptor}
use Rattle.oci_store.specs.Keyed.{has_key, HasAll}
use Rattle.oci_store.specs.Closed.{IsClosed}
use Rattle.oci_store.specs.Content.{IsContent}
use Rattle.oci_store.specs.Contents.{Contents}
use Rattle.oci_store.specs.Copied.{Agree, IsCopied}
use Rattle.oci_store.specs.Graph.{Node, nodes_of, Reaches}
use Rattle.oci_plan.specs.declared.gathering.Existing.{Existing}
use Rattle.oci_copy.specs.Fault.{IsEarly}
use Rattle.oci_copy.specs.Grown.{BeginsWith, IsGrown}
use Rattle.oci_copy.specs.Report.{IsToBringCount, held_count}
use Rattle.oci_copy.specs.declared.fault.CopyFault.{CopyFault}
use Rattle.oci_copy.specs.declared.report.Report.{Report}

-- a successful copy, from the source to a destination that had the opening contents and now has the
-- contents `now`
pub record IsMemoryCopy (existing : Existing) (source : Contents) (roots : List Descriptor) (opening now : Contents) (report : Report) : Type 0 where
  -- if the two agree, the destination has exactly its earlier entries and those that the source
  -- reaches from the roots
  pub copied : Agree source.entries opening.entries
      → IsCopied (nodes_of source.entries) source.entries roots opening.entries now.entries
  -- then every key that the source reaches is held
  pub reached : Agree source.entries opening.entries → (k : Descriptor) → Reaches (nodes_of source.entries) roots k → has_key now.entries k ≡ true
  -- the number of planned keys is the number of keys to bring; all of them were pushed, and the
  -- destination gained that many entries
  pub planned : IsToBringCount existing (nodes_of source.entries) (nodes_of opening.entries) roots report.planned
  pub pushed : report.planned ≡ report.pushed
  pub gained : length now.entries ≡ length opening.entries + report.pushed
  -- the number of distinct roots that were held
  pub skipped : report.skipped ≡ held_count (nodes_of opening.entries) roots

-- the destination lost nothing, and gained only what the source reaches from the roots, also after
-- an error
pub record OnlyGrowsInMemory (source : Contents) (roots : List Descriptor) (opening now : Contents) (answer : Result Report CopyFault) : Type 0 where
  -- its entries begin with its earlier entries, and the others are the source's
  pub begins : BeginsWith opening.entries now.entries
  pub grown : IsGrown (nodes_of source.entries) source.entries roots opening.entries now.entries
  -- each content matches its key and reads, and each key has one entry
  pub content : IsContent now.entries
  -- all that the new keys list is held
  pub whole : (added : List Node) × (nodes_of now.entries ≡ nodes_of opening.entries ++ added)
      × All (λ (n : Node). HasAll (nodes_of now.entries) n.1) added
  -- if it was closed, it is closed
  pub closed : IsClosed (nodes_of opening.entries) → IsClosed (nodes_of now.entries)
  -- its tags are unchanged
  pub tags : now.tags ≡ opening.tags
  -- all is unchanged if the copy was refused before its first push
  pub unchanged : IfErr answer (λ fault. IsEarly fault → now ≡ opening)
