use Rattle.std.proofs.Common.{refl, ◌∙◌}
use Rattle.oci_store.specs.Tags.{by_bytes}
use Rattle.oci_layout_copy.proofs.Retagged.{in_turn, never_refused, next_left, next_turn}
use Rattle.oci_layout_copy.proofs.retag.untag_all.Goals as goal

pub loop-name-init : goal.loop-name-init
loop-name-init g c = record { untagged = refl; graph = refl; dir = refl; there = in_turn (by_bytes c.args.tags.now) c.args.layout.now.tags c.requires.order c.requires.there; opened = refl }

pub loop-name-preserved : goal.loop-name-preserved
loop-name-preserved g c =
    let turn = next_turn c.loop-name.layout.tags c.args.tags.now c.loop-name.name-index c.loop-name-item.result c.loop-name-test.true c.loop-name-item.is c.loop-name.invariant.there in
    let only = c.in_ok-untag.ensures.only in
    let tags = rw c.deref.ensures at c.in_ok-untag.ensures.untagged in
    record {
      untagged = rw tags (next_left c.loop-name.layout.tags c.args.tags.now c.loop-name.name-index c.loop-name-item.result c.loop-name-test.true c.loop-name-item.is ∙ c.loop-name.invariant.untagged);
      graph = only.graph ∙ c.loop-name.invariant.graph;
      dir = only.dir ∙ c.loop-name.invariant.dir;
      there = rw tags turn.2;
      opened = only.opened ∙ c.loop-name.invariant.opened;
    }

pub returns-in_err-untag-clause-never : goal.returns-in_err-untag-clause-never
returns-in_err-untag-clause-never g c =
    let turn = next_turn c.loop-name.layout.tags c.args.tags.now c.loop-name.name-index c.loop-name-item.result c.loop-name-test.true c.loop-name-item.is c.loop-name.invariant.there in
    absurd (never_refused c.loop-name.layout.tags _ c.in_err-untag.field-0.0 c.in_err-untag.ensures.answer c.in_err-untag.ensures.memory (rw c.deref.ensures turn.0) (rw c.deref.ensures turn.1))
