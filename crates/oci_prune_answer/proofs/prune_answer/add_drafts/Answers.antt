use Rattle.oci_prune_answer.specs.Pruned.{of_draft}
use Rattle.oci_prune_answer.proofs.Naming.{drafts_over, none_left}
use Rattle.oci_prune_answer.proofs.prune_answer.add_drafts.Goals as goal

pub returns : goal.returns
returns c = none_left _ _ of_draft _ _ (drafts_over c.loop-draft.draft-iterator c.next.new.self _ c.in-None.is c.next.ensures.steps) c.loop-draft.invariant
