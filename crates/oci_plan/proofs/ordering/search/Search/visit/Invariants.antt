use Rattle.std.proofs.Common.{◌≢◌}
use Rattle.oci_plan.specs.Graph.{lists_of}
use Rattle.oci_plan.specs.Search.{progress_of, work_left, KeepsMet, IsBetween}
use Rattle.oci_plan.specs.declared.ordering.search.Progress.TheVariants.{New}
use Rattle.oci_plan.proofs.ordering.search.Search.visit.Given as goal

abbrev pub invariant-loop-number : goal.invariant-loop-number
invariant-loop-number l = IsBetween (lists_of l.lists) l.self × (progress_of l.self.progress.items l.start ≢ New) × KeepsMet l.fn.self.progress.items l.self.progress.items

abbrev pub decreases-loop-number : goal.decreases-loop-number
decreases-loop-number l = work_left l.self.progress.items
