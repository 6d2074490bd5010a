-- The numbers of a copy's report.
use Rattle.std.specs.Prelude.{◌≡◌, ◌+◌, ◌++◌, ℕ, List, length, filter, ◌↔◌, Contains, codes}
use Rattle.std.specs.Fmt.{decimal}
use Rattle.std.specs.List.{IsDistinct}
use Rattle.oci_manifest.specs.Descriptor.{Descriptor, same_key}
use Rattle.oci_manifest.specs.Manifest.{first_places}
use Rattle.oci_store.specs.Keyed.{has_key}
use Rattle.oci_store.specs.Graph.{Node}
use Rattle.oci_store.specs.State.{State}
use Rattle.oci_plan.specs.Outside.{IsToBring}
use Rattle.oci_plan.specs.declared.gathering.Existing.{Existing}
use Rattle.oci_copy.specs.Grown.{graph_of}
use Rattle.oci_copy.specs.declared.report.Report.{Report}

-- this is the number of keys to bring
abbrev pub IsToBringCount : Existing → List Node → List Node → List Descriptor → ℕ → Type 0
IsToBringCount existing source held roots n = (keys : List Descriptor) × IsDistinct same_key keys
    × ((k : Descriptor) → Contains keys k ↔ IsToBring existing source held roots k) × (length keys ≡ n)

-- the number of distinct roots that are held
abbrev pub held_count : List Node → List Descriptor → ℕ
held_count held roots = length (first_places (filter (has_key held) roots))

-- the report of a successful copy
pub record IsReport (existing : Existing) (source opening : State) (roots : List Descriptor) (now : State) (report : Report) : Type 0 where
  -- with an honest source, the number of planned keys is the number of keys to bring
  pub planned : source.is_honest → IsToBringCount existing (graph_of source) opening.nodes roots report.planned
  -- all of them were pushed, and the destination gained that many keys
  pub pushed : report.planned ≡ report.pushed
  pub gained : length now.nodes ≡ length opening.nodes + report.pushed
  -- the number of distinct roots that were held
  pub skipped : report.skipped ≡ held_count opening.nodes roots

-- the text of a report: each number in decimal after its name, with a space between
abbrev pub report_text : Report → List ℕ
report_text r = codes "planned " ++ decimal r.planned ++ codes " pushed " ++ decimal r.pushed ++ codes " skipped " ++ decimal r.skipped
