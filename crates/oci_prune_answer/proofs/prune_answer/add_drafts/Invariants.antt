use Rattle.std.proofs.Common.{◌≡◌, ◌++◌, map}
use Rattle.oci_dir.specs.Prunable.{by_name}
use Rattle.oci_prune.specs.Pruned.{flagged}
use Rattle.oci_prune_answer.specs.Pruned.{of_draft, shown}
use Rattle.oci_prune_answer.proofs.prune_answer.add_drafts.Given as goal

abbrev pub invariant-loop-draft : goal.invariant-loop-draft
invariant-loop-draft l =
    shown l.gone.items ++ map of_draft (flagged (by_name l.draft-iterator.a.rest.items) l.draft-iterator.b.rest.now) ≡ shown l.initial.gone.items ++ map of_draft (flagged (by_name l.fn.drafts.items) l.went)
