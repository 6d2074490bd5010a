use Rattle.oci_prune_commands.proofs.prune.plan_folder.Goals as goal

pub returns : goal.returns
returns g c = record {
  layout = c.in_ok-layout.layout;
  same = c.in_ok-layout.ensures.same;
  opened = c.in_ok-layout.ensures.opened;
  indexed = c.in_ok-check_index_for.ensures.indexed;
  wanted = λ keeps. rw c.in_ok-layout.ensures.same at (c.in_ok-check_entries_for.ensures keeps);
  rest = c.untag_for.new.layout;
  untagged = rw c.in_ok-of.ensures.tags c.in_ok-tags.ensures;
  plan = c.in_ok-plan.plan;
  planned = c.in_ok-plan.ensures.planned;
  shown = rw c.in_ok-of.ensures.pruned c.in_ok-planned.ensures.shown;
  counted = rw (c.in_ok-of.ensures.pruned, c.in_ok-planned.ensures.left) c.in_ok-left.ensures;
}
