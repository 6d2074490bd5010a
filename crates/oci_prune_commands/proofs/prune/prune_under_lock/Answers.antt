use Rattle.std.proofs.Common.{◌∙◌, String, Global, ap, sym}
use Rattle.std.specs.Global.{Vec}
use Rattle.oci_manifest.specs.Descriptor.{Descriptor}
use Rattle.oci_store.specs.Tags.{by_bytes}
use Rattle.oci_prune_commands.proofs.Pruning.{is_saved}
use Rattle.oci_prune_commands.proofs.prune.prune_under_lock.Goals as goal

pub returns : goal.returns
returns g c none =
    let done = c.in_ok-plan.pruned in
    let saved = is_saved done.saved c.into_fault.result c.into_fault.ensures.unsaved none in
    record {
      opened = c.in_ok-layout.layout;
      is_opened = c.in_ok-layout.ensures;
      indexed = c.in_ok-check_index_for.ensures.indexed;
      wanted = c.in_ok-check_entries_for.ensures;
      rest = c.untag_for.new.layout;
      untagged = rw (c.in_ok-answer.ensures.tags ∙ ap (λ (ts : Vec (String Global × Descriptor)). by_bytes ts.items) (c.tags_gone.ensures.saved saved)) c.in_ok-tags.ensures;
      left = c.prune_layout.new.layout;
      plan = c.in_ok-plan.plan;
      done = done;
      pruned = c.in_ok-plan.ensures;
      saved = saved;
      whole = sym (c.into_fault.ensures.saved saved) ∙ none;
      shown = rw c.in_ok-answer.ensures.pruned c.in_ok-removed.ensures.shown;
      counted = rw (c.in_ok-answer.ensures.pruned, c.in_ok-removed.ensures.left) c.in_ok-left.ensures;
    }
