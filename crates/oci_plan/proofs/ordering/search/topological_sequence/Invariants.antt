use Rattle.std.proofs.Common.{◌≡◌, ◌≢◌, ◌<◌, ℕ, []}
use Rattle.oci_plan.specs.Graph.{lists_of}
use Rattle.oci_plan.specs.Search.{progress_of, IsBetween}
use Rattle.oci_plan.specs.declared.ordering.search.Progress.TheVariants.{New}
use Rattle.oci_plan.proofs.ordering.search.topological_sequence.Given as goal

abbrev pub invariant-loop-start : goal.invariant-loop-start
invariant-loop-start l = IsBetween (lists_of l.lists) l.search × (l.search.path.items ≡ []) × ((n : ℕ) → n < l.start → progress_of l.search.progress.items n ≢ New)
