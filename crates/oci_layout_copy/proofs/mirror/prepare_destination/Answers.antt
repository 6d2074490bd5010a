use Rattle.std.proofs.Common.{subst}
use Rattle.std.proofs.lemmas.Result.{IfOk-weaker}
use Rattle.oci_store.specs.Tags.{by_bytes}
use Rattle.oci_layout_copy.specs.Goal.{IsPrepared}
use Rattle.oci_entries.specs.Pattern.{texts_of}
use Rattle.oci_layout_copy.proofs.Goals.{only_selected}
use Rattle.oci_layout_copy.proofs.mirror.prepare_destination.Goals as goal

pub returns-clause-goal : goal.returns-clause-goal
returns-clause-goal g c =
    IfOk-weaker c.of.result _ _
    (λ goal is. record {
      kept = by_bytes c.in_ok-kept.kept.tags.items;
      attached = c.in_ok-kept.kept.attached.items;
      tags = c.in_ok-kept.ensures.kept;
      entries = rw c.deref.ensures.value at c.in_ok-forget_others.ensures.forgotten;
      aim = is;
    })
    c.of.ensures.exact

pub returns-clause-whole : goal.returns-clause-whole
unfolding returns-clause-goal
returns-clause-whole g c none =
    IfOk-weaker c.of.result _ _
    (λ goal is. only_selected g.D.Dir.device c.args.is_exact c.args.destination.now c.forget_others.new.destination (c.args.selected.now.0, c.args.selected.now.1) goal
    (subst (λ patterns. IsPrepared g.D.Dir.device (texts_of patterns) c.args.is_exact (c.args.selected.now.0, c.args.selected.now.1) c.args.destination.now c.forget_others.new.destination goal) none is))
    (returns-clause-goal g c)
